-- No item of the program of a lowered file has the name `atexit`.
use Rattle.std.proofs.Common.{◌≡◌, Bool, true, false, ◌&&◌, ◌||◌, ◌==◌, cond, List, [], ◌∷◌, ◌++◌, map, refl, ap, sym, subst, ◌∙◌, inl, inr, ◌⊎◌}
use Rattle.std.specs.Prelude.{bytes_eq, codes}
use Rattle.std.specs.List.{flat_map}
use Rattle.std.proofs.lemmas.Bool.{true≢false, or_cases}
use Rattle.cf_base.proofs.Tests.{same_bytes}
use Rattle.cf_core.specs.Types.{Name}
use Rattle.cf_core.specs.Calls as source
use Rattle.cf_plain.specs.Plain.{PlainFunction, PlainStatic}
use Rattle.cc_whole.specs.declared.unit.CVariable.{CVariable}
use Rattle.cc_whole.specs.Known.{is_in, is_library}
use Rattle.cc_whole.specs.Known as known
use Rattle.cc_whole.specs.Plain.{Statement, Item, declares, declares_variable, defines, defines_variable, name_of}
use Rattle.cc_whole_link.specs.Placed.{static_renaming, longer}
use Rattle.cc_whole_registered.specs.Registered.{declares_atexit}
use Rattle.cf_lower.specs.Functions.{prototype, lowered_function, lowered_static, literals, start_literals, library, constants_function}
use Rattle.cf_lower_program.specs.Names.{may_be_function, is_well_named}
use Rattle.cf_lower_program.specs.Lowerable.{Lowerable}
use Rattle.cc_whole_sections.specs.Sections.{Every}
use Rattle.cf_lower_valid.proofs.Inner.{every-mapped, every-append}
use Rattle.cf_lower_valid.proofs.Naming.{function-foreign, object-foreign}
use Rattle.cf_lower_valid.proofs.Once.{any-none, either-way}
use Rattle.cf_lower_valid.proofs.Files.{elsewhere-from}
use Rattle.cf_lower_valid.proofs.Spans.{none-any}
use Rattle.cf_lower_valid.proofs.Tests.{file_of, names-told}
use Rattle.cf_lower_valid.proofs.Starts.{stores}
use Rattle.cf_lower_alone.proofs.AloneLaws.Items.{item_with, items_with, name-with}
use Rattle.cf_lower_alone.proofs.AloneLaws.Statics.{variables, lowered_items, every-item, static_names, function-foreign-name, object-foreign-name, function-literal, start-literal, LiteralNamed}

abbrev pub at_exit : Name
at_exit = codes "atexit"

foreign-no-exit : (n : Name) → is_library n ≡ false → bytes_eq n at_exit ≡ false
foreign-no-exit n e =
    either-way at_exit n (none-any (λ other. bytes_eq other n) known.library e at_exit (inr (inr (inr (inr (inr (inl refl)))))))

and-false : (a b : Bool) → b ≡ false → (a && b) ≡ false
and-false true b e = e
and-false false b e = refl

-- nor has it one with the number of a file behind
longer-no-exit : (n : Name) → bytes_eq (longer 1 n) at_exit ≡ false
longer-no-exit [] = refl
longer-no-exit (a ∷ []) = and-false (a == 97) _ refl
longer-no-exit (a ∷ b ∷ []) = and-false (a == 97) _ (and-false (b == 116) _ refl)
longer-no-exit (a ∷ b ∷ c ∷ []) = and-false (a == 97) _ (and-false (b == 116) _ (and-false (c == 101) _ refl))
longer-no-exit (a ∷ b ∷ c ∷ d ∷ []) = and-false (a == 97) _ (and-false (b == 116) _ (and-false (c == 101) _ (and-false (d == 120) _ refl)))
longer-no-exit (a ∷ b ∷ c ∷ d ∷ e ∷ []) =
    and-false (a == 97) _ (and-false (b == 116) _ (and-false (c == 101) _ (and-false (d == 120) _ (and-false (e == 105) _ refl))))
longer-no-exit (a ∷ b ∷ c ∷ d ∷ e ∷ f ∷ []) =
    and-false (a == 97) _ (and-false (b == 116) _ (and-false (c == 101) _ (and-false (d == 120) _ (and-false (e == 105) _ (and-false (f == 116) _ refl)))))
longer-no-exit (a ∷ b ∷ c ∷ d ∷ e ∷ f ∷ g ∷ n) =
    and-false (a == 97) _ (and-false (b == 116) _ (and-false (c == 101) _ (and-false (d == 120) _ (and-false (e == 105) _ (and-false (f == 116) _ refl)))))

renamed-no-exit : (names : List Name) (n : Name) → bytes_eq n at_exit ≡ false → bytes_eq (static_renaming 1 names n) at_exit ≡ false
renamed-no-exit names n e = go (is_in names n)
  where
    go : (b : Bool) → bytes_eq (cond b (longer 1 n) n) at_exit ≡ false
    go true = longer-no-exit n
    go false = e

abbrev NoExit : Item → Type 0
NoExit i = bytes_eq (name_of i) at_exit ≡ false

library-no-exit : Every NoExit library
library-no-exit i (inl e) = subst NoExit e refl
library-no-exit i (inr (inl e)) = subst NoExit e refl
library-no-exit i (inr (inr (inl e))) = subst NoExit e refl
library-no-exit i (inr (inr (inr h))) = absurd h

by-three : (P : Type 0) (a b c : Bool) → (a || b || c) ≡ true → (a ≡ true → P) → (b ≡ true → P) → (c ≡ true → P) → P
by-three P true b c e f g h = f refl
by-three P false true c e f g h = g refl
by-three P false false true e f g h = h refl
by-three P false false false e f g h = absurd (cc)

source-no-exit : (n : Name) → source.is_library n ≡ true → bytes_eq n at_exit ≡ false
source-no-exit n e =
    by-three (bytes_eq n at_exit ≡ false) (bytes_eq n (codes "putchar")) (bytes_eq n (codes "getchar")) (bytes_eq n (codes "exit")) e (λ h. is-it (codes "putchar") h refl)
    (λ h. is-it (codes "getchar") h refl) (λ h. is-it (codes "exit") h refl)
  where
    is-it : (z : Name) → bytes_eq n z ≡ true → bytes_eq z at_exit ≡ false → bytes_eq n at_exit ≡ false
    is-it z h m = ap (λ k. bytes_eq k at_exit) (same_bytes n z h) ∙ m

named-no-exit : (i : Item) → is_well_named i ≡ true → NoExit i
named-no-exit (declares p) e = go (or_cases (source.is_library p.name) (may_be_function p.name) e)
  where
    go : (source.is_library p.name ≡ true) ⊎ (may_be_function p.name ≡ true) → bytes_eq p.name at_exit ≡ false
    go (inl h) = source-no-exit p.name h
    go (inr h) = foreign-no-exit p.name (function-foreign p.name h).no_library
named-no-exit (declares_variable t n) e = foreign-no-exit n (object-foreign n e).no_library
named-no-exit (defines f) e = absurd (true≢false (sym e))
named-no-exit (defines_variable v) e = absurd (true≢false (sym e))

module _ (fs : List PlainFunction) (xs : List PlainStatic) (low : Lowerable (file_of fs xs)) where
  literal-no-exit : (v : CVariable) → LiteralNamed v → NoExit (defines_variable v)
  literal-no-exit v l = ap (λ n. bytes_eq n at_exit) l.is ∙ refl

  helper-no-exit : (ss : List Statement) → Every NoExit (constants_function ss)
  helper-no-exit [] i h = absurd h
  helper-no-exit (s ∷ ss) i (inl e) = subst NoExit e refl
  helper-no-exit (s ∷ ss) i (inr k) = absurd k

  items-no-exit : Every NoExit (lowered_items fs xs low)
  items-no-exit =
      every-item fs xs low NoExit library-no-exit
      (every-mapped NoExit (λ (f : PlainFunction). declares (prototype f)) fs (λ f h. foreign-no-exit f.name (function-foreign-name fs xs low f h).no_library))
      (λ i h. named-no-exit i ((names-told fs xs low).named i (elsewhere-from fs xs low i h)))
      (every-mapped NoExit defines_variable (variables fs xs low)
      (every-append (λ v. NoExit (defines_variable v)) (map (lowered_static []) xs ++ flat_map literals fs) (flat_map start_literals xs)
      (every-append (λ v. NoExit (defines_variable v)) (map (lowered_static []) xs) (flat_map literals fs)
      (every-mapped (λ v. NoExit (defines_variable v)) (lowered_static []) xs (λ x h. foreign-no-exit x.name (object-foreign-name fs xs low x h).no_library))
      (λ v h. literal-no-exit v (function-literal fs xs low v h))) (λ v h. literal-no-exit v (start-literal fs xs low v h))))
      (every-mapped NoExit (λ (f : PlainFunction). defines (lowered_function [] f)) fs (λ f h. foreign-no-exit f.name (function-foreign-name fs xs low f h).no_library))
      (helper-no-exit (stores fs xs low))

  -- by their names in the program, with `main`
  pub none-exits : (last : Item) → NoExit last → declares_atexit (items_with (static_renaming 1 (static_names fs xs low)) (lowered_items fs xs low) ++ last ∷ []) ≡ false
  none-exits last e =
      let r = static_renaming 1 (static_names fs xs low) in
      any-none (λ i. bytes_eq (name_of i) at_exit) (items_with r (lowered_items fs xs low) ++ last ∷ [])
      (every-append NoExit (items_with r (lowered_items fs xs low)) (last ∷ [])
      (every-mapped NoExit (λ i. item_with i r) (lowered_items fs xs low)
      (λ i h. ap (λ n. bytes_eq n at_exit) (name-with i r) ∙ renamed-no-exit (static_names fs xs low) (name_of i) (items-no-exit i h))) one)
    where
      one : Every NoExit (last ∷ [])
      one i (inl k) = subst NoExit k e
      one i (inr k) = absurd k
