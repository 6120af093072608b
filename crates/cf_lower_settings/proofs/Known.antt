-- What registers of an initialiser hold in the source is what is known of them.
use Rattle.std.proofs.Common.{◌≡◌, ℕ, zero, suc, ◌+◌, ◌≤◌, ◌<◌, Bool, true, false, cond, Some, refl, ap, sym, subst, ◌∙◌, ◌⊎◌, arith}
use Rattle.std.specs.Prelude.{nat_eq}
use Rattle.std.proofs.lemmas.Bool.Decides.{nat_tests}
use Rattle.cf_core.specs.Types.{Name, SourceType, void, without_const}
use Rattle.cf_core.specs.Places.{Place, type_at}
use Rattle.cf_core.specs.Pointers.{element_of, bound_of}
use Rattle.cf_core.specs.Store as source
use Rattle.cf_core.specs.Calls.{Program}
use Rattle.cf_lower_layout.specs.Layout.{offset, points}
use Rattle.cf_plain.specs.Plain.{Register}
use Rattle.cf_plain.specs.Acts.{Registers}
use Rattle.cf_plain.specs.Running.{keep as keep_value}
use Rattle.cf_lower.specs.Constants.{Known, unknown, a_number, null, at, a_function, know}
use Rattle.cc_whole_mean.specs.declared.named.Named.TheVariants as meant
use Rattle.cc_whole_mean.specs.declared.named.Shape.{Shape}
use Rattle.cc_whole_mean.specs.Scope.{Scope}
use Rattle.cf_lower_relate.specs.Map.{Map, is_shown}
use Rattle.cf_lower_steps.specs.Lowering.{is_function}
use Rattle.cf_lower_program.specs.Alike.{Fact, of_type, left_of, tell}

module _ (P : Program) (function : Name → ℕ) (signature : Name → SourceType) (F : Map) (names : Scope) (q r : Name → Name) where
  -- a place so many bytes behind the start of what the C's variable of this name holds, which is of this type or any, with so many elements left
  pub record IsAt (n : Name) (o : ℕ) (t : SourceType) (ahead : ℕ) (v : source.Value) : Type 0 where
    pub place : Place
    pub is : v ≡ source.At place
    pub shape : Shape
    pub named : names (r n) ≡ Some (meant.Variable (F.block place.object) shape)
    pub known : place.object < F.count
    pub shown : is_shown (F.stage place.object) ≡ true
    pub base : F.base place.object ≡ 0
    pub points : points P.classes (F.type place.object) place.route ≡ true
    pub offset : offset P.classes (F.type place.object) place.route ≡ o
    pub type : (t ≡ void) ⊎ (without_const (type_at P.classes (F.type place.object) place.route) ≡ without_const t)
    pub left : (element_of place.route).index + ahead ≤ bound_of P.classes (F.type place.object) (element_of place.route)

  -- a function, of the type that is told
  pub record IsFunction (n : Name) (f : Fact) (v : source.Value) : Type 0 where
    pub is : v ≡ source.Code (q n)
    pub named : names (r n) ≡ Some (meant.Function (function (q n)))
    pub known : is_function P (q n) ≡ true
    pub type : (t : SourceType) → f ≡ of_type t → without_const (signature (q n)) ≡ without_const t

  -- the same, of the value itself
  pub at-itself : (n : Name) (o : ℕ) (t : SourceType) (k : ℕ) (v : source.Value) (x : IsAt n o t k v) → IsAt n o t k (source.At x.place)
  at-itself n o t k v x = record {
    place = x.place;
    is = refl;
    shape = x.shape;
    named = x.named;
    known = x.known;
    shown = x.shown;
    base = x.base;
    points = x.points;
    offset = x.offset;
    type = x.type;
    left = x.left;
  }

  -- and of another type
  pub at-type : (n : Name) (o : ℕ) (t u : SourceType) (k : ℕ) (v : source.Value) (x : IsAt n o t k v)
      → (u ≡ void) ⊎ (without_const (type_at P.classes (F.type x.place.object) x.place.route) ≡ without_const u) → IsAt n o u k (source.At x.place)
  at-type n o t u k v x type = record {
    place = x.place;
    is = refl;
    shape = x.shape;
    named = x.named;
    known = x.known;
    shown = x.shown;
    base = x.base;
    points = x.points;
    offset = x.offset;
    type = type;
    left = x.left;
  }

  pub function-itself : (n : Name) (f : Fact) (v : source.Value) → IsFunction n f v → IsFunction n f (source.Code (q n))
  function-itself n f v x = record { is = refl; named = x.named; known = x.known; type = x.type }

  abbrev pub KnownAs : Known → Fact → source.Value → Type 0
  KnownAs (a_number z) f v = v ≡ source.Number z
  KnownAs null f v = v ≡ source.Null
  KnownAs (at n o t) f v = IsAt n o t (left_of f) v
  KnownAs (a_function n) f v = IsFunction n f v
  KnownAs unknown f v = Unit {0}

  abbrev pub Knows : (Register → Known) → (Register → Fact) → Registers → Type 0
  Knows g h regs = (i : Register) (v : source.Value) → regs i ≡ Some v → KnownAs (g i) (h i) v

  -- ---- a register is set

  kept-same : (regs : Registers) (i : Register) (v : source.Value) → keep_value regs i v i ≡ Some v
  kept-same regs zero v = refl
  kept-same regs (suc i) v = kept-same (λ j. regs (suc j)) i v

  kept-other : (regs : Registers) (i j : Register) (v : source.Value) → nat_eq j i ≡ false → keep_value regs i v j ≡ regs j
  kept-other regs zero zero v e = absurd (grind (arith, nat_tests, e))
  kept-other regs zero (suc j) v e = refl
  kept-other regs (suc i) zero v e = refl
  kept-other regs (suc i) (suc j) v e = kept-other (λ k. regs (suc k)) i j v (grind (arith, nat_tests, e))

  pub knows-set : (g : Register → Known) (h : Register → Fact) (regs : Registers) (i : Register) (x : Known) (f : Fact) (v : source.Value) → KnownAs x f v → Knows g h regs
      → Knows (know g i x) (tell h i f) (keep_value regs i v)
  knows-set g h regs i x f v is known j u e = go (nat_eq j i) refl
    where
      some-value : {a b : source.Value} → Some a ≡ Some b → a ≡ b
      some-value e = cc

      go : (b : Bool) → nat_eq j i ≡ b → KnownAs (cond b x (g j)) (cond b f (h j)) u
      go true same =
          let here : j ≡ i = grind (arith, nat_tests, same) in
          subst (KnownAs x f) (some-value (sym (kept-same regs i v) ∙ ap (keep_value regs i v) (sym here) ∙ e)) is
      go false other = known j u (sym (kept-other regs i j v other) ∙ e)
