-- The names of a file that is joined alone: what is local to it has a mark behind it.
use Rattle.std.proofs.Common.{◌≡◌, ℕ, Bool, true, false, not, ◌||◌, if◌then◌else◌, List, [], ◌∷◌, ◌++◌, ap, refl, sym, ◌∙◌}
use Rattle.std.specs.Prelude.{bytes_eq, codes, decimal}
use Rattle.std.specs.Fmt.{digits}
use Rattle.std.specs.List.{list_any}
use Rattle.std.proofs.lemmas.List.{append_cancel_right}
use Rattle.cf_base.proofs.Tests.{same_bytes, bytes_same}
use Rattle.cf_core.specs.Types.{Name}
use Rattle.cf_core.specs.Calls.{is_library}
use Rattle.cf_core.specs.Joined.{in_file, name_in}
use Rattle.cf_sequence.specs.Built.{is_numeral, is_mark, has_mark}
use Rattle.cf_file_sound.proofs.Typed.{never}

abbrev main : Name
main = codes "__main"

abbrev mark : List ℕ
mark = codes "__u"

mark-or : (a : Bool) → a || true ≡ true
mark-or true = refl
mark-or false = refl

numeral : is_numeral (decimal 1) ≡ true
unfolding digits
numeral = refl

marked : (n rest : Name) → is_numeral rest ≡ true → has_mark (n ++ mark ++ rest) ≡ true
marked [] rest ok = ap (λ v. v || has_mark (95 ∷ 117 ∷ rest)) ok
marked (b ∷ n) rest ok = ap (λ v. is_mark (b ∷ (n ++ mark ++ rest)) || v) (marked n rest ok) ∙ mark-or (is_mark (b ∷ (n ++ mark ++ rest)))

-- a name that joining makes has a mark
file-marked : (n : Name) → has_mark (in_file 1 n) ≡ true
file-marked n = marked n (decimal 1) numeral

-- a name without a mark is another one
other-name : (n m : Name) → has_mark m ≡ false → bytes_eq (in_file 1 n) m ≡ false
other-name n m unmarked = by (bytes_eq (in_file 1 n) m) refl
  where
    by : (b : Bool) → bytes_eq (in_file 1 n) m ≡ b → b ≡ false
    by true e = sym (file-marked n) ∙ ap has_mark (same_bytes (in_file 1 n) m e) ∙ unmarked
    by false e = refl

-- it is none of the library's, and not that of `main`
pub not-library : (n : Name) → is_library (in_file 1 n) ≡ false
not-library n =
    ap (λ b. b || bytes_eq (in_file 1 n) (codes "getchar") || bytes_eq (in_file 1 n) (codes "exit")) (other-name n (codes "putchar") refl)
    ∙ ap (λ b. b || bytes_eq (in_file 1 n) (codes "exit")) (other-name n (codes "getchar") refl) ∙ other-name n (codes "exit") refl

module _ (names : List Name) where
  abbrev r : Name → Name
  r = name_in 1 names

  -- names without a mark stay different
  same-name : (a b : Name) → not (has_mark a) ≡ true → not (has_mark b) ≡ true → r a ≡ r b → a ≡ b
  same-name a b plain_a plain_b = by (list_any (bytes_eq a) names) (list_any (bytes_eq b) names)
    where
      by : (u v : Bool) → (if u then in_file 1 a else a) ≡ (if v then in_file 1 b else b) → a ≡ b
      by true true e = append_cancel_right a b mark (append_cancel_right (a ++ mark) (b ++ mark) (decimal 1) e)
      by true false e = never (sym (ap not (sym (ap has_mark e) ∙ file-marked a)) ∙ plain_b)
      by false true e = never (sym (ap not (ap has_mark e ∙ file-marked b)) ∙ plain_a)
      by false false e = e

  pub same-test : (a b : Name) → not (has_mark a) ≡ true → not (has_mark b) ≡ true → bytes_eq (r a) (r b) ≡ bytes_eq a b
  same-test a b plain_a plain_b = by (bytes_eq a b) (bytes_eq (r a) (r b)) refl refl
    where
      by : (u v : Bool) → bytes_eq a b ≡ u → bytes_eq (r a) (r b) ≡ v → v ≡ u
      by true v e f = sym f ∙ bytes_same (r a) (r b) (ap r (same_bytes a b e))
      by false true e f = sym (bytes_same a b (same-name a b plain_a plain_b (same_bytes (r a) (r b) f))) ∙ e
      by false false e f = refl

  -- where `main` is not local, its name is that of nothing else
  pub main-stays : list_any (bytes_eq main) names ≡ false → (n : Name) → bytes_eq (r n) main ≡ bytes_eq n main
  main-stays outside n = by (list_any (bytes_eq n) names) refl
    where
      differs : (b : Bool) → bytes_eq n main ≡ b → list_any (bytes_eq n) names ≡ true → b ≡ false
      differs true e among = sym among ∙ ap (λ m. list_any (bytes_eq m) names) (same_bytes n main e) ∙ outside
      differs false e among = refl

      by : (u : Bool) → list_any (bytes_eq n) names ≡ u → bytes_eq (if u then in_file 1 n else n) main ≡ bytes_eq n main
      by true among = other-name n main refl ∙ sym (differs (bytes_eq n main) refl among)
      by false among = refl
