-- Static objects of a block whose initialisers are constant by the known number of a local: the number stands in them, and no local.
use Rattle.std.proofs.Common.{◌≡◌, List, [], ◌∷◌, refl}
use Rattle.std.specs.Prelude.{Some, codes, pos}
use Rattle.std.specs.Fmt.{digits}
use Rattle.cf_syntax.specs.declared.operator.PrefixOp.TheVariants as op
use Rattle.cf_syntax.specs.declared.specifier.Storage.TheVariants as storage
use Rattle.cf_core.specs.declared.node.Core.TheVariants as node
use Rattle.cf_elab.specs.Answer.{Elab}
use Rattle.cf_elab.specs.Statement.{return_row}
use Rattle.cf_elab.specs.Built.{built_so_far}
use Rattle.cf_elab.specs.File.{First, core_of_items}
use Rattle.cf_elab.proofs.CoreRows.{starts}
use Rattle.cf_elab.proofs.Words.{number, named, applied, item, const_at, stored, int_at, called, pointing, holding, with_value, plain, declared_item, local, main}

abbrev made : List (Elab (Unit {0})) → First
made items = core_of_items built_so_far [] items

-- int main(){const int k=5;static int y=k;return y;}
static_from_a_local_constant :
    starts (made (main (local 11 (const_at 11 ∷ int_at 12 ∷ []) (with_value 20 (called 20 (codes "k")) 21 22 (number 22 5) ∷ [])
    ∷ local 24 (stored 24 storage.Static ∷ int_at 25 ∷ []) (with_value 30 (called 30 (codes "y")) 31 32 (named 32 (codes "k")) ∷ [])
    ∷ return_row 40 (Some (named 41 (codes "y"))) ∷ []) ∷ [])) ≡ node.Number 32 (pos 5) ∷ []
unfolding digits
static_from_a_local_constant = refl

-- int a[9];int main(){const int k=5;static int*p=&a[k];return 0;}
static_address_by_a_local_constant :
    starts (made (declared_item 0 (int_at 0 ∷ []) (plain 4 (holding 5 (Some (number 6 9)) (called 4 (codes "a"))) ∷ [])
    ∷ main (local 11 (const_at 11 ∷ int_at 12 ∷ []) (with_value 20 (called 20 (codes "k")) 21 22 (number 22 5) ∷ [])
    ∷ local 24 (stored 24 storage.Static ∷ int_at 25 ∷ []) (with_value 30 (pointing 29 (called 30 (codes "p"))) 31 32 (applied 32 op.AddressOf (item 33 (named 33 (codes "a")) (named 34 (codes "k")))) ∷ [])
    ∷ return_row 40 (Some (number 41 0)) ∷ []) ∷ []))
    ≡ node.Blank 4 ∷ node.Address 32 (node.Index 33 (node.Decay 33 (node.Static 33 (codes "a") 5)) (node.Number 34 (pos 5))) ∷ []
unfolding digits
static_address_by_a_local_constant = refl
