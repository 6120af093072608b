-- What small files become.
use Rattle.std.proofs.Common.{◌≡◌, List, [], ◌∷◌, refl}
use Rattle.std.specs.Prelude.{Some, None, codes, pos, map}
use Rattle.cf_base.specs.declared.kind.Kind.TheVariants as kind
use Rattle.cf_base.specs.declared.arith.Arith.TheVariants as arith
use Rattle.cf_syntax.specs.declared.operator.BinaryOp.TheVariants as binary
use Rattle.cf_syntax.specs.declared.operator.PrefixOp.TheVariants as op
use Rattle.cf_syntax.specs.declared.specifier.BasicType.TheVariants as basic
use Rattle.cf_syntax.specs.declared.specifier.TypeSpecifier.TheVariants as specifier
use Rattle.cf_core.specs.declared.operators.PointerOperator.TheVariants as pointer
use Rattle.cf_core.specs.declared.operators.UnaryOperator.TheVariants as unary
use Rattle.cf_core.specs.declared.node.Core.{Core as Node}
use Rattle.cf_core.specs.declared.node.Core.TheVariants as node
use Rattle.cf_core.specs.declared.node.Holder.TheVariants as holder
use Rattle.cf_core.specs.declared.unit.CoreFn.{CoreFn}
use Rattle.cf_core.specs.declared.unit.CoreStatic.{CoreStatic}
use Rattle.cf_elab.specs.Statement.{expression_row, return_row, switch_row, case_row}
use Rattle.cf_elab.specs.File.{First, Core, Broken, Limit}
use Rattle.cf_elab.proofs.Words.{number, named, call, joined, applied, set, basic_at, int_at, called, unnamed, pointing, referring, taking, holding, parameter, type_in, cast, plain, with_value, declared_item, local, main, function, elaborates, enumeration, type_name}

abbrev pub bodies : First → List Node
bodies (Core u) = map (λ (f : CoreFn). f.body) u.functions
bodies (Broken rule at) = []
bodies (Limit b most) = []

abbrev pub starts : First → List Node
starts (Core u) = map (λ (x : CoreStatic). x.start) u.statics
starts (Broken rule at) = []
starts (Limit b most) = []

-- int main(){unsigned a=0;long b=-1;return (a-1)==b;}: the types of the table are int, void, the three functions' and then unsigned (5), long (6)
-- and unsigned long (7)
both_become_unsigned_long :
    bodies (elaborates (main (local 11 (basic_at 11 basic.Unsigned ∷ []) (with_value 20 (called 20 (codes "a")) 21 22 (number 22 0) ∷ [])
    ∷ local 24 (basic_at 24 basic.Long ∷ []) (with_value 29 (called 29 (codes "b")) 30 31 (applied 31 op.Minus (number 32 1)) ∷ [])
    ∷ return_row 34 (Some (joined 46 binary.Equal (joined 43 binary.Subtract (named 42 (codes "a")) (number 44 1)) (named 48 (codes "b")))) ∷ []) ∷ []))
    ≡ node.Block 10 (node.Declare 20 0 5 (node.Convert 22 5 (node.Number 22 (pos 0)))
    ∷ node.Declare 29 1 6 (node.Convert 31 6 (node.Unary 31 unary.Negate kind.Int (node.Number 32 (pos 1))))
    ∷ node.Return 34 (Some (node.Operate 46 arith.Equal kind.ULong
    (node.Convert 43 7 (node.Operate 43 arith.Subtract kind.UInt (node.Read 42 (node.Local 42 0)) (node.Convert 44 5 (node.Number 44 (pos 1)))))
    (node.Convert 48 7 (node.Read 48 (node.Local 48 1))))) ∷ []) ∷ []
both_become_unsigned_long = refl

-- int a[3];int main(){int*p=a;p=p+3;*p=1;return 0;}
pointer_into_a_static_array :
    bodies (elaborates (declared_item 0 (int_at 0 ∷ []) (plain 4 (holding 5 (Some (number 6 3)) (called 4 (codes "a"))) ∷ [])
    ∷ main (local 20 (int_at 20 ∷ []) (with_value 23 (pointing 23 (called 24 (codes "p"))) 25 26 (named 26 (codes "a")) ∷ [])
    ∷ expression_row 28 (set 29 (named 28 (codes "p")) (joined 31 binary.Add (named 30 (codes "p")) (number 32 3)))
    ∷ expression_row 34 (set 36 (applied 34 op.Dereference (named 35 (codes "p"))) (number 37 1))
    ∷ return_row 39 (Some (number 46 0)) ∷ []) ∷ []))
    ≡ node.Block 10 (node.Declare 24 0 6 (node.Decay 26 (node.Static 26 (codes "a") 5))
    ∷ node.Full 28 (node.Store 29 (node.Local 28 0) (node.PointerOperate 31 pointer.Add (node.Read 30 (node.Local 30 0)) (node.Number 32 (pos 3))))
    ∷ node.Full 34 (node.Store 36 (node.Dereference 34 (node.Read 35 (node.Local 35 0))) (node.Number 37 (pos 1)))
    ∷ node.Return 39 (Some (node.Number 46 (pos 0))) ∷ []) ∷ []
pointer_into_a_static_array = refl

-- int f(const int&r){return r;}int main(){int i=4;int&j=i;j=j+1;return f(i)+f(2);}: the second call makes a temporary
references :
    bodies (elaborates (function (int_at 0 ∷ []) 4 (taking 5 (parameter 6 (specifier.Const 6 ∷ specifier.Basic 12 basic.Int ∷ []) (referring 15 (called 16 (codes "r"))) ∷ []) (called 4 (codes "f"))) 18
    (return_row 19 (Some (named 26 (codes "r"))) ∷ [])
    ∷ main (local 40 (int_at 40 ∷ []) (with_value 44 (called 44 (codes "i")) 45 46 (number 46 4) ∷ [])
    ∷ local 48 (int_at 48 ∷ []) (with_value 51 (referring 51 (called 52 (codes "j"))) 53 54 (named 54 (codes "i")) ∷ [])
    ∷ expression_row 56 (set 57 (named 56 (codes "j")) (joined 59 binary.Add (named 58 (codes "j")) (number 60 1)))
    ∷ return_row 62 (Some (joined 73 binary.Add (call 70 (named 69 (codes "f")) (named 71 (codes "i") ∷ [])) (call 75 (named 74 (codes "f")) (number 76 2 ∷ [])))) ∷ []) ∷ []))
    ≡ node.Block 18 (node.Return 19 (Some (node.Read 26 (node.Local 26 0))) ∷ [])
    ∷ node.Block 10 (node.Declare 44 0 0 (node.Number 46 (pos 4))
    ∷ node.Declare 52 1 8 (node.Bind 53 holder.NoTemporary (node.Local 54 0))
    ∷ node.Full 56 (node.Store 57 (node.Local 56 1) (node.Operate 59 arith.Add kind.Int (node.Read 58 (node.Local 58 1)) (node.Number 60 (pos 1))))
    ∷ node.Return 62 (Some (node.Operate 73 arith.Add kind.Int
    (node.Call 69 (codes "f__FRCi") 7 None (node.Bind 69 holder.NoTemporary (node.Local 71 0) ∷ []))
    (node.Call 74 (codes "f__FRCi") 7 None (node.Bind 74 holder.NoTemporary (node.Temporary 74 5 (node.Number 76 (pos 2))) ∷ [])))) ∷ []) ∷ []
references = refl

-- int x=5;int*p=&x;int&r=x;: all three are constant
constant_initialisers :
    starts (elaborates (declared_item 0 (int_at 0 ∷ []) (with_value 4 (called 4 (codes "x")) 5 6 (number 6 5) ∷ [])
    ∷ declared_item 8 (int_at 8 ∷ []) (with_value 11 (pointing 11 (called 12 (codes "p"))) 13 14 (applied 14 op.AddressOf (named 15 (codes "x"))) ∷ [])
    ∷ declared_item 17 (int_at 17 ∷ []) (with_value 20 (referring 20 (called 21 (codes "r"))) 22 23 (named 23 (codes "x")) ∷ []) ∷ []))
    ≡ node.Number 6 (pos 5) ∷ node.Address 14 (node.Static 15 (codes "x") 0) ∷ node.Bind 22 holder.NoTemporary (node.Static 23 (codes "x") 0) ∷ []
constant_initialisers = refl

-- enum E{P,Q=5,R};int main(){E e=R;switch(e){case Q:return 1;case R:return 2;}return 3;}: the labels are ints, as the promoted operand
switch_over_an_enumeration :
    bodies (elaborates (declared_item 0 (enumeration 0 (Some (5, codes "E")) (record { at = 7; name = codes "P"; value = None } ∷ record { at = 9; name = codes "Q"; value = Some (number 11 5) } ∷ record { at = 13; name = codes "R"; value = None } ∷ []) ∷ []) []
    ∷ main (local 27 (type_name 27 (codes "E") ∷ []) (with_value 29 (called 29 (codes "e")) 30 31 (named 31 (codes "R")) ∷ [])
    ∷ switch_row 33 (named 40 (codes "e")) (case_row 43 (named 48 (codes "Q")) ∷ return_row 50 (Some (number 57 1)) ∷ case_row 59 (named 64 (codes "R")) ∷ return_row 66 (Some (number 73 2)) ∷ [])
    ∷ return_row 76 (Some (number 83 3)) ∷ []) ∷ []))
    ≡ node.Block 10 (node.Declare 29 0 5 (node.Number 31 (pos 6))
    ∷ node.Switch 33 (node.Convert 40 0 (node.Read 40 (node.Local 40 0)))
    (node.Case 43 (pos 5) ∷ node.Return 50 (Some (node.Number 57 (pos 1))) ∷ node.Case 59 (pos 6) ∷ node.Return 66 (Some (node.Number 73 (pos 2))) ∷ [])
    ∷ node.Return 76 (Some (node.Number 83 (pos 3))) ∷ []) ∷ []
switch_over_an_enumeration = refl

-- ---- where values stand

-- int x;int f(){return (int&)x;}: what is read stands at the cast
place_of_a_cast :
    bodies (elaborates (declared_item 0 (int_at 0 ∷ []) (plain 4 (called 4 (codes "x")) ∷ [])
    ∷ function (int_at 6 ∷ []) 10 (taking 11 [] (called 10 (codes "f"))) 13
    (return_row 14 (Some (cast 21 (type_in 22 (specifier.Basic 22 basic.Int ∷ []) (referring 25 unnamed)) (named 27 (codes "x")))) ∷ []) ∷ []))
    ≡ node.Block 13 (node.Return 14 (Some (node.Read 21 (node.Static 27 (codes "x") 0))) ∷ []) ∷ []
place_of_a_cast = refl

-- int f(char c){return +c;}
place_of_a_plus :
    bodies (elaborates (function (int_at 0 ∷ []) 4 (taking 5 (parameter 6 (specifier.Basic 6 basic.Char ∷ []) (called 11 (codes "c")) ∷ []) (called 4 (codes "f"))) 13
    (return_row 14 (Some (applied 21 op.Plus (named 22 (codes "c")))) ∷ []) ∷ []))
    ≡ node.Block 13 (node.Return 14 (Some (node.Convert 21 0 (node.Read 22 (node.Local 22 0)))) ∷ []) ∷ []
place_of_a_plus = refl

-- void*f(int*p){return +p;}: the types behind the functions' are int* (5) and void* (6)
place_of_a_plus_of_a_pointer :
    bodies (elaborates (function (basic_at 0 basic.Void ∷ []) 4 (pointing 4 (taking 6 (parameter 7 (specifier.Basic 7 basic.Int ∷ []) (pointing 10 (called 11 (codes "p"))) ∷ []) (called 5 (codes "f")))) 13
    (return_row 14 (Some (applied 21 op.Plus (named 22 (codes "p")))) ∷ []) ∷ []))
    ≡ node.Block 13 (node.Return 14 (Some (node.Convert 21 6 (node.Read 22 (node.Local 22 0)))) ∷ []) ∷ []
place_of_a_plus_of_a_pointer = refl
