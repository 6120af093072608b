-- Others in place of items.
use Rattle.std.proofs.Common.{◌≡◌, ℕ, true, false, List, [], Option, Some, Err, ap, sym, ◌∙◌, subst, arith}
use Rattle.std.specs.Prelude.{nat_le, if◌then◌else◌}
use Rattle.std.proofs.lemmas.Bool.Decides.{nat_tests}
use Rattle.cc_whole_tokens.specs.declared.token.Token.{Token}
use Rattle.cc_whole.specs.declared.unit.CItem.{CItem}
use Rattle.cc_whole.specs.Fault.{Checks}
use Rattle.cc_whole.specs.Plain.{Item}
use Rattle.cc_whole.specs.SpellsItems.{SpellsItems}
use Rattle.cc_whole.specs.Valid.{first_fault}
use Rattle.cc_whole_fitting.specs.Numbers.{numbers_fit}
use Rattle.cc_whole_wide.specs.Place.{Tells, InPlace}
use Rattle.cc_whole_wide.proofs.Stopping.{Stopped, early, late, Beside, same, stops}
use Rattle.cc_whole_wide.proofs.ItemSides.{Around, no_names, items_so}
use Rattle.cc_whole_wide.proofs.ItemTurns.{other_items}

stopped_tells : (w : ℕ) (c d : Checks) → Stopped w c d → Tells w c d
stopped_tells w c d (early f small e k) =
    let up : nat_le f.place w ≡ true = grind (arith, nat_tests) in
    record { fault = f; there = k; here = e ∙ ap (λ b. Err (if b then f else record { rule = 11; place = w })) (sym up) }
stopped_tells w c d (late f large e k) =
    let up : nat_le f.place w ≡ false = grind (arith, nat_tests) in
    record { fault = f; there = k; here = e ∙ ap (λ b. Err (if b then f else record { rule = 11; place = w })) (sym up) }

at_first : Around
at_first = record { names = []; defined = []; sized = no_names }

same_place : (v w : ℕ) → Some v ≡ Some w → v ≡ w
same_place v w e = cc

beside_tells : {o : Option ℕ} {is js : List Item} → Beside items_so o is js → (w : ℕ) → o ≡ Some w → Tells w (first_fault is) (first_fault js)
unfolding at_first
beside_tells (same is) w e = absurd (cc)
beside_tells (stops v is js h) w e =
    subst (λ n. Tells n (first_fault is) (first_fault js)) (same_place v w e) (stopped_tells v (first_fault is) (first_fault js) (h at_first))

pub in_place : (items : List CItem) (tokens : List Token) → SpellsItems items tokens → InPlace tokens items
in_place items tokens d =
    let x = other_items d in
    record {
      other = x.tree;
      spelled = subst (SpellsItems x.tree) (sym x.turned.puts) x.spells;
      fit = ap numbers_fit x.turned.puts ∙ x.turned.fit;
      tells = λ w e. beside_tells x.beside w (sym x.turned.wide ∙ e);
    }
