-- Specifiers one after the other.
use Rattle.std.proofs.Common.{◌≡◌, ℕ, suc, ◌+◌, ◌<◌, Bool, true, false, nat_le, if◌then◌else◌, List, [], ◌∷◌, ◌++◌, length, map, take, drop, get_or, All, None, Some, refl, sym, ap, subst, ◌∙◌, arith}
use Rattle.std.proofs.lemmas.List.{take_more, take-append-drop, map-append}
use Rattle.std.proofs.lemmas.List.Elements.{All-append, All-cons}
use Rattle.std.proofs.Math.Seq.{drop-cons}
use Rattle.cf_syntax.specs.declared.specifier.TypeSpecifier.{TypeSpecifier}
use Rattle.cf_types.specs.Table.{Table}
use Rattle.cf_elab.specs.Answer.{Answer, Elab, Made, Refused, Passed, onward, each}
use Rattle.cf_elab.specs.Built.{Place, first, of_specifier, of_specifiers}
use Rattle.cf_elab.specs.Declarator as declarator
use Rattle.cf_elab.specs.Env.{Env}
use Rattle.cf_elab_env.specs.Answered.{Stops}
use Rattle.cf_elab_env.specs.Holds.{Grows}
use Rattle.cf_elab_env.specs.declared.stop.Stop.{Stop}
use Rattle.cf_elab_env.specs.declared.stop.Stop.TheVariants as stop
use Rattle.cf_elab_env.proofs.Growth.{type_grown, All-into}
use Rattle.cf_elab_env.proofs.Scoped.{All-one}
use Rattle.cf_elab_specifiers.specs.Said.Seen.{word_seen}
use Rattle.cf_elab_specifiers.specs.Said.Words.{IsWord}
use Rattle.cf_elab_specifiers.specs.declared.said.word.Word.{Word}
use Rattle.cf_elab_specifiers.specs.declared.said.word.Word.TheVariants as word
use Rattle.cf_elab_specifiers.specs.Named.Shut as shut

stops_onward : {A B : Type 0} (a : Answer A) (go : A → Env → Answer B) (s : Stop) → Stops a s → Stops (onward a go) s
stops_onward a go (stop.Broken b) h = ap (λ a. onward a go) h
stops_onward a go (stop.Passed l) h = ap (λ a. onward a go) h
stops_onward a go stop.Memory h = tt

-- ---- of any list

module _ {A B : Type 0} (f : A → Elab B) where
  abbrev with : B → List B → Env → Answer (List B)
  with w ws e = Made (w ∷ ws) e

  abbrev behind : List A → B → Env → Answer (List B)
  behind xs w e = onward (each f xs e) (with w)

  record Parts (x : A) (xs : List A) (vs : List B) (old new : Env) : Type 0 where
    pub head : B
    pub tail : List B
    pub between : Env
    pub head_is : f x old ≡ Made head between
    pub tail_is : each f xs between ≡ Made tail new
    pub all : vs ≡ head ∷ tail

  parts : (x : A) (xs : List A) (vs : List B) (old new : Env) → onward (f x old) (behind xs) ≡ Made vs new → Parts x xs vs old new
  parts x xs vs old new h = by (f x old) refl h
    where
      in_rest : (w : B) (e : Env) (r : Answer (List B)) → f x old ≡ Made w e → each f xs e ≡ r → onward r (with w) ≡ Made vs new → Parts x xs vs old new
      in_rest w e (Made ws n) head is h =
          let same : n ≡ new = cc in
          let all : vs ≡ w ∷ ws = cc in
          record { head = w; tail = ws; between = e; head_is = head; tail_is = is ∙ ap (λ n. Made ws n) same; all = all }
      in_rest w e (Refused r p) head is h = cc
      in_rest w e (Passed b m) head is h = cc

      by : (r : Answer B) → f x old ≡ r → onward r (behind xs) ≡ Made vs new → Parts x xs vs old new
      by (Made w e) is h = in_rest w e (each f xs e) is refl h
      by (Refused r p) is h = cc
      by (Passed b m) is h = cc

  each_more : (ps : List A) (x : A) (vs : List B) (v : B) (old e new : Env) → each f ps old ≡ Made vs e → f x e ≡ Made v new → each f (ps ++ x ∷ []) old ≡ Made (vs ++ v ∷ []) new
  each_more [] x vs v old e new h is =
      let none : [] ≡ vs = cc in
      let same : old ≡ e = cc in
      ap (λ e. onward (f x e) (behind [])) same ∙ ap (λ r. onward r (behind [])) is ∙ ap (λ l. Made (l ++ v ∷ []) new) none
  each_more (p ∷ ps) x vs v old e new h is =
      let a = parts p ps vs old e h in
      ap (λ r. onward r (behind (ps ++ x ∷ []))) a.head_is ∙ ap (λ r. onward r (with a.head)) (each_more ps x a.tail v a.between e new a.tail_is is)
      ∙ ap (λ l. Made (l ++ v ∷ []) new) (sym a.all)

  each_stops : (ps : List A) (x : A) (rest : List A) (vs : List B) (s : Stop) (old e : Env) → each f ps old ≡ Made vs e → Stops (f x e) s → Stops (each f (ps ++ x ∷ rest) old) s
  each_stops [] x rest vs s old e h is =
      let same : e ≡ old = cc in
      stops_onward (f x old) (behind rest) s (subst (λ e. Stops (f x e) s) same is)
  each_stops (p ∷ ps) x rest vs s old e h is =
      let a = parts p ps vs old e h in
      let P : Answer B → Type 0 = λ r. Stops (onward r (behind (ps ++ x ∷ rest))) s in
      subst P (sym a.head_is) (stops_onward (each f (ps ++ x ∷ rest) a.between) (with a.head) s (each_stops ps x rest a.tail s a.between e a.tail_is is))

-- ---- by the place among the specifiers

pub no_words : (env : Env) → shut.words_of [] env ≡ Made [] env
unfolding shut.words_of
no_words env = refl

module _ (xs : List TypeSpecifier) (n : ℕ) (x : TypeSpecifier) (within : n < length xs) (here : x ≡ get_or xs n x) (old e : Env) (ws : List Word)
    (so_far : shut.words_of (take n xs) old ≡ Made (map word_seen ws) e) where
  pub words_more : (w : Word) (new : Env) → shut.word_of x e ≡ Made (word_seen w) new → shut.words_of (take (n + 1) xs) old ≡ Made (map word_seen (ws ++ w ∷ [])) new
  unfolding shut.words_of shut.word_of
  words_more w new is =
      let more : take (n + 1) xs ≡ take n xs ++ x ∷ [] = take_more xs n x within ∙ ap (λ y. take n xs ++ y ∷ []) (sym here) in
      ap (λ l. each declarator.word_of l old) more ∙ each_more declarator.word_of (take n xs) x (map word_seen ws) (word_seen w) old e new so_far is
      ∙ ap (λ l. Made l new) (sym (map-append word_seen ws (w ∷ [])))

  pub words_stopped : (s : Stop) → Stops (shut.word_of x e) s → Stops (shut.words_of xs old) s
  unfolding shut.words_of shut.word_of
  words_stopped s is =
      let split : take n xs ++ x ∷ drop (suc n) xs ≡ xs =
      ap (λ y. take n xs ++ y ∷ drop (suc n) xs) here ∙ ap (λ l. take n xs ++ l) (sym (drop-cons xs n x within)) ∙ take-append-drop n xs in
      subst (λ l. Stops (each declarator.word_of l old) s) split (each_stops declarator.word_of (take n xs) x (drop (suc n) xs) (map word_seen ws) s old e so_far is)

-- ---- what is known

first_none : (a b : Place) → first a b ≡ None → (a ≡ None) × (b ≡ None)
first_none None b h = (refl, h)
first_none (Some a) None h = cc
first_none (Some a) (Some b) h = absurd (one_of (nat_le a b) h)
  where
    one_of : (c : Bool) → (if c then Some a else Some b) ≡ None → ⊥
    one_of true h = cc
    one_of false h = cc

pub built_at : (xs : List TypeSpecifier) (n : ℕ) (x : TypeSpecifier) → of_specifiers xs ≡ None → n < length xs → x ≡ get_or xs n x → of_specifier x ≡ None
built_at xs n x built within here = subst (λ y. of_specifier y ≡ None) (sym here) (all xs built n x within)
  where
    all : (xs : List TypeSpecifier) → of_specifiers xs ≡ None → All (λ y. of_specifier y ≡ None) xs
    all [] h = λ i d w. absurd (omega arith)
    all (y ∷ ys) h = let both = first_none (of_specifier y) (of_specifiers ys) h in All-cons (λ y. of_specifier y ≡ None) y ys both.0 (all ys both.1)

word_grown : (a b : Table) (w : Word) → Grows a b → IsWord a w → IsWord b w
word_grown a b (word.Stored at s) g h = tt
word_grown a b (word.Const at) g h = tt
word_grown a b (word.Basic at k) g h = tt
word_grown a b (word.Type at t) g h = type_grown a b t g h
word_grown a b (word.Defined at t) g h = type_grown a b t g h

pub words_known : (a b : Table) (ws : List Word) (w : Word) → Grows a b → All (λ w. IsWord a w) ws → IsWord b w → All (λ w. IsWord b w) (ws ++ w ∷ [])
words_known a b ws w g all one =
    All-append (λ w. IsWord b w) ws (w ∷ []) (All-into (λ w. IsWord a w) (λ w. IsWord b w) ws (λ w h. word_grown a b w g h) all) (All-one (λ w. IsWord b w) w one)
