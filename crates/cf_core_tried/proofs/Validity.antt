-- The small files have valid cores.
use Rattle.std.proofs.Common.{◌≡◌, ◌∙◌, ℕ, zero, suc, ◌<◌, ◌≤◌, ◌^◌, Bool, List, [], ◌∷◌, length, refl, ap, subst, Some, All, slice_get, lit≤, inl, inr, ◌⊎◌, arith}
use Rattle.std.specs.Prelude.{pos}
use Rattle.cf_base.specs.declared.kind.Kind.TheVariants.{Int}
use Rattle.cf_types.specs.declared.ty.Ty.{Ty}
use Rattle.cf_types.specs.declared.ty.Ty.TheVariants as ty
use Rattle.cf_types.specs.declared.ty.Fun.{Fun}
use Rattle.cf_types.specs.Table.{Table, Names, Enters}
use Rattle.cf_classes.specs.declared.label.Label.{Label}
use Rattle.cf_classes.specs.declared.class.ClassDef.{ClassDef}
use Rattle.cf_classes.specs.ClassTable.{ClassTable}
use Rattle.cf_classes.specs.Fit.{Fit, class_of_type, enum_of_type}
use Rattle.cf_core.specs.Core as meaning
use Rattle.cf_core.specs.declared.node.Core.{Core, roll-Core}
use Rattle.cf_core.specs.declared.node.Core.TheOpen.{Core-F}
use Rattle.cf_core.specs.declared.node.Core.TheVariants as core
use Rattle.cf_core.specs.declared.node.Core.TheFolds.{fold-roll-Core}
use Rattle.cf_core.specs.View.{Started, core_step, started_step}
use Rattle.cf_core.specs.Numbers.{known_step, known_part}
use Rattle.cf_core.specs.FromClasses.{signature_of}
use Rattle.cf_core.specs.declared.unit.CoreFn.{CoreFn}
use Rattle.cf_core.specs.declared.unit.CoreStatic.{CoreStatic}
use Rattle.cf_core.specs.FromUnit.{Unit, IsValid, WithinLimits, tables_of}
use Rattle.cf_core.specs.FromTypes.{type_of}
use Rattle.cf_core.specs.Size.{size}
use Rattle.cf_core_tried.specs.Files.{returns_seven, main_of, seven}

-- the same by the open forms of its nodes
abbrev rolled : Core
rolled = roll-Core (Core-F.Block 10 (roll-Core (Core-F.Return 11 (Some (roll-Core (Core-F.Number 18 (pos 7))))) ∷ []))

abbrev file : Core → Unit
file body = record { types = seven.types; classes = seven.classes; functions = main_of 0 body ∷ []; statics = [] }

types_fit : Fit seven.types seven.classes
types_fit = record {
  classes_given = given;
  enums_given = enums;
  types_exist = λ i d h. cc;
  fields_defined = λ i d h. cc;
  sizes = λ i d h. cc;
}
  where
    given : (i : ℕ) (t : Ty) → slice_get seven.types.types i ≡ Some t → All (λ c. c < 0) (class_of_type t)
    given zero t h = let e : ty.Int Int ≡ t = cc in subst (λ u. All (λ c. c < 0) (class_of_type u)) e (λ k d h. absurd (omega arith))
    given (suc i) t h = cc

    enums : (i : ℕ) (t : Ty) → slice_get seven.types.types i ≡ Some t → All (λ e. e < 0) (enum_of_type t)
    enums zero t h = let e : ty.Int Int ≡ t = cc in subst (λ u. All (λ e. e < 0) (enum_of_type u)) e (λ k d h. absurd (omega arith))
    enums (suc i) t h = cc

within_limits : WithinLimits (file rolled)
within_limits = record { sizes = sizes; functions = refl; statics = refl; descriptions = refl }
  where
    sizes : (t : ℕ) → t < 1 → size [] (type_of (tables_of (file rolled)) t) ≤ 2 ^ 22
    sizes zero h = lit≤ tt
    sizes (suc t) h = absurd (omega arith)

rolled_is_valid : IsValid (file rolled)
rolled_is_valid = record {
  names = named;
  fit = types_fit;
  limits = within_limits;
  functions = simp (fold-roll-Core Bool Bool (known_step (tables_of (file rolled))) (known_part (tables_of (file rolled))));
  statics = refl;
  file = simp (fold-roll-Core meaning.Core Started (core_step (tables_of (file rolled)) (signature_of (tables_of (file rolled)))) (started_step (tables_of (file rolled)) (signature_of (tables_of (file rolled)))));
}
  where
    named : (i : ℕ) (t : Ty) → slice_get seven.types.types i ≡ Some t → Names [] i 0 t
    named zero t h = let e : ty.Int Int ≡ t = cc in subst (Names [] 0 0) e (record { parts_known = λ k d h. absurd (omega arith); fun_known = λ k d h. absurd (omega arith) })
    named (suc i) t h = cc

rolls : rolled ≡ returns_seven
rolls =
    let returning : Core → Core = λ v. roll-Core (Core-F.Return 11 (Some v)) in
    let standing : Core → Core = λ s. roll-Core (Core-F.Block 10 (s ∷ [])) in
    ap standing (ap returning (core.rolls-Number 18 (pos 7)) ∙ core.rolls-Return 11 (Some (core.Number 18 (pos 7))))
    ∙ core.rolls-Block 10 (core.Return 11 (Some (core.Number 18 (pos 7))) ∷ [])

pub seven_is_valid : IsValid seven
seven_is_valid = subst (λ b. IsValid (file b)) rolls rolled_is_valid

-- What the parts of the file come to.
table_is : (t : Table) (xs : List Ty) → t.types ≡ xs → t.funs ≡ [] → t ≡ record { types = xs; funs = [] }
table_is t xs u v =
    let by_types : List Ty → Table = λ l. record { types = l; funs = t.funs } in
    let by_funs : List Fun → Table = λ l. record { types = xs; funs = l } in
    ap by_types u ∙ ap by_funs v

classes_are : (c : ClassTable) → c.labels ≡ [] → c.enums ≡ [] → c.defined ≡ [] → c ≡ seven.classes
classes_are c u v w =
    let by_labels : List Label → ClassTable = λ l. record { labels = l; enums = c.enums; defined = c.defined } in
    let by_enums : List Label → ClassTable = λ l. record { labels = []; enums = l; defined = c.defined } in
    let by_defined : List (ℕ × ClassDef) → ClassTable = λ l. record { labels = []; enums = []; defined = l } in
    ap by_labels u ∙ ap by_enums v ∙ ap by_defined w

interned : (xs : List Ty) (int : ℕ) → Enters [] xs (ty.Int Int) int → (xs ≡ ty.Int Int ∷ []) × (int ≡ 0)
interned xs int e = entered e.kept
  where
    entered : (xs ≡ []) ⊎ (xs ≡ ty.Int Int ∷ []) → (xs ≡ ty.Int Int ∷ []) × (int ≡ 0)
    entered (inl none) = absurd (let h = e.within in let g = ap (λ (l : List Ty). length l) none in omega (arith, h, g))
    entered (inr one) = (one, (let h = e.within in let g = ap (λ (l : List Ty). length l) one in omega (arith, h, g)))

pub seven_is : (t : Table) (c : ClassTable) (fs : List CoreFn) (xs : List CoreStatic) (int : ℕ) → Enters [] t.types (ty.Int Int) int → t.funs ≡ []
    → c.labels ≡ [] → c.enums ≡ [] → c.defined ≡ [] → fs ≡ main_of int returns_seven ∷ [] → xs ≡ []
    → record { types = t; classes = c; functions = fs; statics = xs } ≡ seven
seven_is t c fs xs int e funs labels enums defined functions statics =
    let i = interned t.types int e in
    let by_types : Table → Unit = λ t. record { types = t; classes = c; functions = fs; statics = xs } in
    let by_classes : ClassTable → Unit = λ c. record { types = seven.types; classes = c; functions = fs; statics = xs } in
    let by_functions : List CoreFn → Unit = λ fs. record { types = seven.types; classes = seven.classes; functions = fs; statics = xs } in
    let by_statics : List CoreStatic → Unit = λ xs. record { types = seven.types; classes = seven.classes; functions = seven.functions; statics = xs } in
    ap by_types (table_is t (ty.Int Int ∷ []) i.0 funs) ∙ ap by_classes (classes_are c labels enums defined)
    ∙ ap by_functions (functions ∙ ap (λ k. main_of k returns_seven ∷ []) i.1) ∙ ap by_statics statics
