-- What the linker answers.
use Rattle.std.specs.Prelude.{◌≡◌, ℕ, ◌^◌, List, Result, Ok, Err}
use Rattle.cf_base.specs.declared.limit.Limit.{Limit}
use Rattle.cf_base.specs.declared.limit.Bound.TheVariants as bound
use Rattle.cc_whole.specs.declared.unit.CItem.{CItem}
use Rattle.cc_whole.specs.declared.unit.CUnit.{CUnit}
use Rattle.cc_whole.specs.declared.unit.CProgram.{CProgram}
use Rattle.cc_whole_link.specs.declared.refusal.LinkRule.{LinkRule}
use Rattle.cc_whole_link.specs.declared.refusal.LinkRule.TheVariants as rule
use Rattle.cc_whole_link.specs.Link.{Refusal, refusal}
use Rattle.cc_whole_linked.specs.Limited.{LinksWithin, limited, linked, refused, past_the_limit}
use Rattle.cc_whole_linker.specs.declared.error.BrokenRule.{BrokenRule}
use Rattle.cc_whole_linker.specs.declared.error.LinkErr.{LinkErr}
use Rattle.cc_whole_linker.specs.declared.error.LinkErr.TheVariants as error

abbrev pub number : LinkRule → ℕ
number rule.L1 = 1
number rule.L2 = 2
number rule.L3 = 3
number rule.L4 = 4
number rule.L5 = 5
number rule.L6 = 6

abbrev pub refusal_of : BrokenRule → Refusal
refusal_of b = refusal (number b.rule) b.name

-- the limit on the bytes of variables
abbrev pub static_limit : Limit
static_limit = record { bound = bound.Static; most = 2 ^ 22 }

-- the program, the first broken rule with its name, or the limit; for want of memory nothing is said
abbrev pub Answers : List CUnit → Result CProgram LinkErr → Type 0
Answers units (Ok program) = LinksWithin units (linked program)
Answers units (Err (error.Refused b)) = LinksWithin units (refused (refusal_of b))
Answers units (Err (error.Limit limit)) = LinksWithin units past_the_limit × (limit ≡ static_limit)
Answers units (Err error.Memory) = Unit {0}

-- the items of a linked program, or the refusal
abbrev pub Made : Result CProgram Refusal → Result (List CItem) LinkErr → Type 0
Made made (Ok items) = made ≡ Ok (record { items = items })
Made made (Err (error.Refused b)) = made ≡ Err (refusal_of b)
Made made (Err (error.Limit limit)) = ⊥
Made made (Err error.Memory) = Unit {0}

-- what the limit makes of these items
abbrev pub Limited : List CItem → Result CProgram LinkErr → Type 0
Limited items (Ok program) = limited (Ok (record { items = items })) ≡ linked program
Limited items (Err (error.Refused b)) = ⊥
Limited items (Err (error.Limit limit)) = (limited (Ok (record { items = items })) ≡ past_the_limit) × (limit ≡ static_limit)
Limited items (Err error.Memory) = ⊥

-- what the limit makes of a program or a refusal
abbrev pub Finished : Result CProgram Refusal → Result CProgram LinkErr → Type 0
Finished made (Ok program) = limited made ≡ linked program
Finished made (Err (error.Refused b)) = limited made ≡ refused (refusal_of b)
Finished made (Err (error.Limit limit)) = (limited made ≡ past_the_limit) × (limit ≡ static_limit)
Finished made (Err error.Memory) = Unit {0}
