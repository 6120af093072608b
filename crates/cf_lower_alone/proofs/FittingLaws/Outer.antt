-- A name of the source stays none of the C's own where the number of a file is put behind it.
use Rattle.std.proofs.Common.{◌≡◌, ℕ, Bool, true, false, not, ◌&&◌, ◌||◌, ◌==◌, cond, [], ◌∷◌, ◌++◌, refl, ap, sym, subst, ◌∙◌, inl, inr}
use Rattle.std.specs.Prelude.{bytes_eq, codes, decimal}
use Rattle.std.specs.List.{list_any}
use Rattle.std.proofs.lemmas.List.Folds.{list_any-append}
use Rattle.cf_base.proofs.Tests.{both}
use Rattle.cf_core.specs.Types.{Name}
use Rattle.cf_core.specs.Joined.{in_file}
use Rattle.cc_whole.specs.Known.{library, is_library, is_helper}
use Rattle.cc_whole_link.specs.Placed.{longer}
use Rattle.cf_lower_program.specs.Names.{begins_with_digit, is_own_name}
use Rattle.cc_whole_sections.specs.Sections.{In, Every}
use Rattle.cf_lower_valid.proofs.Own.{letters}
use Rattle.cf_lower_valid.proofs.Others.{mapped-from}
use Rattle.cf_lower_valid.proofs.Once.{any-none, no-not, either-way, told-apart}
use Rattle.cf_lower_valid.proofs.Spans.{none-any}
use Rattle.cf_lower_valid.proofs.Scopes.{is_outer, local_fronts}
use Rattle.cf_lower_valid.proofs.Tests.{all-in}
use Rattle.cf_lower_valid.proofs.Naming.{Foreign}
use Rattle.cf_lower_alone.proofs.AloneLaws.Names.{longer-in-file}
use Rattle.cf_lower_alone.proofs.AloneLaws.Alone.{longer-no-main}

and-false : (a b : Bool) → b ≡ false → (a && b) ≡ false
and-false true b e = e
and-false false b e = refl

-- what is put behind a name begins with `__u`
suffix : (c : ℕ) → (c == 95) ≡ false → (c == 117) ≡ false → (ds n : Name) → is_own_name (95 ∷ 95 ∷ c ∷ []) n ≡ false
    → is_own_name (95 ∷ 95 ∷ c ∷ []) (n ++ (95 ∷ 95 ∷ 117 ∷ ds)) ≡ false
suffix c e k ds [] h = ap (λ b. b && begins_with_digit ds) k
suffix c e k ds (a ∷ []) h = and-false (95 == a) _ (ap (λ b. b && begins_with_digit (117 ∷ ds)) e)
suffix c e k ds (a ∷ b ∷ []) h = and-false (95 == a) _ (and-false (95 == b) _ (ap (λ x. x && begins_with_digit (95 ∷ 117 ∷ ds)) e))
suffix c e k ds (a ∷ b ∷ d ∷ []) h = and-false (95 == a) _ (and-false (95 == b) _ (and-false (c == d) _ refl))
suffix c e k ds (a ∷ b ∷ d ∷ x ∷ n) h = h

letters-apart : (c : ℕ) → In c letters → ((c == 95) ≡ false) × ((c == 117) ≡ false)
letters-apart c h =
    let two = both (not (c == 95)) (not (c == 117)) (all-in (λ (c : ℕ). not (c == 95) && not (c == 117)) letters refl c h) in
    (no-not (c == 95) two.0, no-not (c == 117) two.1)

outer-longer : (n : Name) → is_outer n ≡ false → is_outer (longer 1 n) ≡ false
outer-longer n e =
    any-none (λ front. is_own_name front (longer 1 n)) local_fronts
    (λ front h.
    let m = mapped-from (λ c. 95 ∷ 95 ∷ c ∷ []) letters front h in
    let apart = letters-apart m.one m.there in
    subst (λ front. is_own_name front (longer 1 n) ≡ false) m.is
    (suffix m.one apart.0 apart.1 (decimal 1) n
    (none-any (λ front. is_own_name front n) local_fronts e (95 ∷ 95 ∷ m.one ∷ []) (subst (λ front. In front local_fronts) (sym m.is) h))))

literal-longer : (n : Name) → is_own_name (codes "__s") n ≡ false → is_own_name (codes "__s") (longer 1 n) ≡ false
literal-longer n e = suffix 115 refl refl (decimal 1) n e

-- where the number is there or not
pub outer-there : (b : Bool) (n : Name) → is_outer n ≡ false → is_outer (cond b (in_file 1 n) n) ≡ false
outer-there true n e = ap is_outer (sym (longer-in-file n)) ∙ outer-longer n e
outer-there false n e = e

pub literal-there : (b : Bool) (n : Name) → is_own_name (codes "__s") n ≡ false → is_own_name (codes "__s") (cond b (in_file 1 n) n) ≡ false
literal-there true n e = ap (is_own_name (codes "__s")) (sym (longer-in-file n)) ∙ literal-longer n e
literal-there false n e = e

-- ---- nor of another kind

helper-longer : (n : Name) → is_helper n ≡ false → is_helper (longer 1 n) ≡ false
helper-longer [] e = refl
helper-longer (a ∷ []) e = and-false (95 == a) _ refl
helper-longer (a ∷ b ∷ []) e = and-false (95 == a) _ (and-false (95 == b) _ refl)
helper-longer (a ∷ b ∷ c ∷ n) e = e

-- a name with a line in it is none of the library's
abbrev has_line : Name → Bool
has_line n = list_any (λ (c : ℕ). c == 95) n

longer-line : (n : Name) → has_line (longer 1 n) ≡ true
longer-line n = list_any-append (λ (c : ℕ). c == 95) n (codes "__u" ++ decimal 1) ∙ or-true (list_any (λ (c : ℕ). c == 95) n)
  where
    or-true : (b : Bool) → (b || true) ≡ true
    or-true true = refl
    or-true false = refl

library-lines : Every (λ z. has_line z ≡ false) library
library-lines z (inl e) = subst (λ z. has_line z ≡ false) e refl
library-lines z (inr (inl e)) = subst (λ z. has_line z ≡ false) e refl
library-lines z (inr (inr (inl e))) = subst (λ z. has_line z ≡ false) e refl
library-lines z (inr (inr (inr (inl e)))) = subst (λ z. has_line z ≡ false) e refl
library-lines z (inr (inr (inr (inr (inl e))))) = subst (λ z. has_line z ≡ false) e refl
library-lines z (inr (inr (inr (inr (inr (inl e)))))) = subst (λ z. has_line z ≡ false) e refl
library-lines z (inr (inr (inr (inr (inr (inr k)))))) = absurd k

longer-library : (n : Name) → is_library (longer 1 n) ≡ false
longer-library n = any-none (λ z. bytes_eq z (longer 1 n)) library (λ z h. either-way (longer 1 n) z (told-apart has_line (longer 1 n) z (longer-line n) (library-lines z h)))

pub foreign-there : (b : Bool) (n : Name) → Foreign n → Foreign (cond b (in_file 1 n) n)
foreign-there true n f =
    subst Foreign (longer-in-file n)
    (record {
      outer = outer-longer n f.outer;
      no_literal = literal-longer n f.no_literal;
      no_helper = helper-longer n f.no_helper;
      no_library = longer-library n;
      no_main = longer-no-main n;
    })
foreign-there false n f = f

-- where the number is there or not, it is none of the library's names
pub no-library-there : (b : Bool) (n : Name) → Foreign n → list_any (bytes_eq (cond b (in_file 1 n) n)) library ≡ false
no-library-there b n f =
    let m : Name = cond b (in_file 1 n) n in
    any-none (bytes_eq m) library (λ z h. either-way z m (none-any (λ other. bytes_eq other m) library (foreign-there b n f).no_library z h))
