-- What the linker answers, from what its steps found.
use Rattle.std.proofs.Common.{◌≡◌, ◌∙◌, ℕ, List, [], Some, None, Result, Ok, Err, refl, ap, sym}
use Rattle.cc_whole.specs.declared.unit.CItem.{CItem}
use Rattle.cc_whole.specs.declared.unit.CUnit.{CUnit}
use Rattle.cc_whole.specs.declared.unit.CProgram.{CProgram}
use Rattle.cc_whole_link.specs.Link.{Refusal, refusal, other_version, FirstBroken, with_main, Links}
use Rattle.cc_whole_link.specs.Link as rules
use Rattle.cc_whole_link.specs.Placed.{Placed, placed_units}
use Rattle.cc_whole_linked.specs.Limited.{LinksWithin, limited, refused}
use Rattle.cc_whole_linker.specs.Answers.{Answers, Made, Limited, Finished, refusal_of}
use Rattle.cc_whole_linker.specs.declared.error.BrokenRule.{BrokenRule}
use Rattle.cc_whole_linker.specs.declared.error.LinkErr.{LinkErr}
use Rattle.cc_whole_linker.specs.declared.error.LinkErr.TheVariants as error

-- items of a program, within the limit or not
pub items_finished : (made : Result CProgram Refusal) (items : List CItem) (r : Result CProgram LinkErr) → made ≡ Ok (record { items = items }) → Limited items r → Finished made r
items_finished made items (Ok program) e h = ap limited e ∙ h
items_finished made items (Err (error.Refused b)) e h = absurd h
items_finished made items (Err (error.Limit limit)) e h = (ap limited e ∙ h.0, h.1)
items_finished made items (Err error.Memory) e h = absurd h

pub refusal_finished : (made : Result CProgram Refusal) (e : LinkErr) → Made made (Err e) → Finished made (Err e)
refusal_finished made (error.Refused b) h = ap limited h
refusal_finished made (error.Limit limit) h = absurd h
refusal_finished made error.Memory h = tt

module _ (units : List CUnit) where
  abbrev all : List Placed
  all = placed_units 1 units

  pub version_refused : (b : BrokenRule) (name : List ℕ) → other_version units ≡ Some name → refusal_of b ≡ refusal 6 name → LinksWithin units (refused (refusal_of b))
  version_refused b name e h = record { made = Err (refusal 6 name); links = rules.version name e; answers = ap refused h }

  pub item_refused : other_version units ≡ None → (b : BrokenRule) → FirstBroken all [] all (Some (refusal_of b)) → LinksWithin units (refused (refusal_of b))
  item_refused e b f = record { made = Err (refusal_of b); links = rules.broken (refusal_of b) e f; answers = refl }

  pub units_finished : other_version units ≡ None → FirstBroken all [] all None → (r : Result CProgram LinkErr) → Finished (with_main all) r → Answers units r
  units_finished e f (Ok program) h = record { made = with_main all; links = rules.linked e f; answers = sym h }
  units_finished e f (Err (error.Refused b)) h = record { made = with_main all; links = rules.linked e f; answers = sym h }
  units_finished e f (Err (error.Limit limit)) h = (record { made = with_main all; links = rules.linked e f; answers = sym h.0 }, h.1)
  units_finished e f (Err error.Memory) h = tt
