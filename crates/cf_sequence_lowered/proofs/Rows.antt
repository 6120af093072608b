-- A file for which the laws ask nothing in vain: it is valid and built, and its core is as they ask.
use Rattle.std.proofs.Common.{◌≡◌, true, false, [], ◌∷◌, refl}
use Rattle.std.specs.Prelude.{pos, None, codes}
use Rattle.std.specs.Fmt.{digits}
use Rattle.cc_whole.specs.Types.{same_type}
use Rattle.cf_base.specs.declared.kind.Kind.TheVariants.{Char, Int}
use Rattle.cf_base.specs.declared.arith.Arith.TheVariants as op
use Rattle.cf_core.specs.declared.operators.LoopForm.TheVariants as form
use Rattle.cf_core.specs.declared.operators.PointerOperator.TheVariants as pointers
use Rattle.cf_core.specs.Types.{Name, SourceType, void, integer, pointer, array}
use Rattle.cf_core.specs.Core.{Core, absent, given, text, local, static_object, read, address, dereference, decay, index, operate, pointer_operate, convert, full, step, moved, list, zeros, declare, loop, switch, case_label, default_label, continue, Static, CoreFile}
use Rattle.cf_core.specs.Valid.{valid_file}
use Rattle.cf_core.proofs.Sample.{int, function_of, in_block, listed, main_of, returns, num, add, value_of, set, called}
use Rattle.cf_sequence.specs.Built.{is_built_file}
use Rattle.cf_sequence_lowered.specs.Lowers.{CoreLowers}

abbrev known_static : Name → SourceType → Core → Static
known_static name t e = record { name = name; type = t; start = e; owner = None; is_constant = true; is_shared = false; is_local = false }

-- int t=3;char*s="ab";int v[3]={1,2};int f(int a){return a+1;}
-- int main(){int x=0;int*p=&x;int a[2]={1,2};*p=f(2);while(x<5){x=x+1;switch(x){case 1:continue;default:x=x+1;}}++p;(void*)p==(void*)p;return a[1]+t;}
abbrev sample : CoreFile
sample = record {
  classes = [];
  functions =
      function_of (codes "f__Fi") (int ∷ []) int (in_block (returns (add (value_of 0) (num 1)) ∷ []))
      ∷ main_of (declare 0 int (num 0)
      ∷ declare 1 (pointer int) (address (local 0))
      ∷ declare 2 (array int 2) (list (listed (num 1 ∷ num 2 ∷ [])) zeros)
      ∷ set (dereference (value_of 1)) (called (codes "f__Fi") (int ∷ []) int (num 2 ∷ []))
      ∷ loop form.While (given (operate op.Less Int (value_of 0) (num 5))) absent
      (in_block (set (local 0) (add (value_of 0) (num 1))
      ∷ switch (value_of 0) (listed (case_label (pos 1) ∷ continue ∷ default_label ∷ set (local 0) (add (value_of 0) (num 1)) ∷ [])) ∷ []))
      ∷ full (step false (moved false) (local 1))
      ∷ full (pointer_operate pointers.Equal (convert (pointer void) (value_of 1)) (convert (pointer void) (value_of 1)))
      ∷ returns (add (read (index (decay (local 2)) (num 1))) (read (static_object (codes "t") int))) ∷ []) ∷ [];
  statics = known_static (codes "t") int (num 3) ∷ known_static (codes "s") (pointer (integer Char)) (decay (text 0 (97 ∷ 98 ∷ 0 ∷ [])))
      ∷ known_static (codes "v") (array int 3) (list (listed (num 1 ∷ num 2 ∷ [])) zeros) ∷ [];
}

sample_is_valid : valid_file sample ≡ true
sample_is_valid = refl

sample_is_built : is_built_file sample ≡ true
sample_is_built = refl

sample_lowers : CoreLowers sample
unfolding digits same_type
sample_lowers = record {
  types = refl;
  operators = refl;
  names = refl;
  statics = refl;
  texts = refl;
  literals = refl;
  labels = refl;
  counts = refl;
  shared = refl;
  ready = refl;
}
