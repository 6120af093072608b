-- What is at hand in a body.
use Rattle.std.proofs.Common.{◌≡◌, ℕ, Bool, true, false, if◌then◌else◌, List, [], ◌∷◌, None, All, refl, sym, subst}
use Rattle.std.proofs.lemmas.List.Elements.{All-cons, All-head, All-tail}
use Rattle.cf_types.specs.Table.{Table}
use Rattle.cf_elab.specs.Env.{Hand, FunctionEntry, main_body, plain_body}
use Rattle.cf_elab.specs.Members.{class_of_body}
use Rattle.cf_elab.specs.Names.{is_main}
use Rattle.cf_elab.specs.Definition.{own_types}
use Rattle.cf_elab.specs.Shape.{Parameter}
use Rattle.cf_elab_env.specs.Holds.{Grows, IsEntry, IsHand, IsType}
use Rattle.cf_elab_env.proofs.Growth.{type_grown, All-into}
use Rattle.cf_elab_env.proofs.Scoped.{All-none}
use Rattle.cf_elab_shape.specs.Shapes.Holds.{IsParameter, AreObjects}
use Rattle.cf_elab_unit.specs.Definitions.Shut as shut

pub objects_typed : (types : Table) (ps : List Parameter) → AreObjects types ps → All (λ p. IsType types p.type) ps
objects_typed types ps all = All-into (IsParameter types) (λ p. IsType types p.type) ps (λ p k. k.typed) all

types_typed : (types : Table) (ps : List Parameter) → AreObjects types ps → All (λ t. IsType types t) (own_types ps)
types_typed types [] all = All-none (λ t. IsType types t)
types_typed types (p ∷ ps) all =
    All-cons (λ t. IsType types t) p.type (own_types ps) (All-head (IsParameter types) p ps all).typed (types_typed types ps (All-tail (IsParameter types) p ps all))

pub hand_known : (types : Table) (f : FunctionEntry) (r : ℕ) (ps : List Parameter) (h : Hand) → IsType types r → AreObjects types ps → h ≡ shut.hand_of f r ps → IsHand types h
hand_known types f r ps h typed objects is =
    let known : IsHand types (shut.hand_of f r ps) = record { no_class = by (is_main f.link); result = typed; locals = types_typed types ps objects } in
    subst (IsHand types) (sym is) known
  where
    by : (b : Bool) → class_of_body (if b then main_body else plain_body) ≡ None
    by true = refl
    by false = refl

pub entry_typed : (types : Table) (f : FunctionEntry) → IsEntry types f → IsType types f.type
entry_typed types f k = k.typed

pub hand_grown : (a b : Table) (h : Hand) → Grows a b → IsHand a h → IsHand b h
hand_grown a b h g k =
    record { no_class = k.no_class; result = type_grown a b h.result g k.result; locals = All-into (IsType a) (IsType b) h.locals (λ t. type_grown a b t g) k.locals }
