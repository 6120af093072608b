-- A file is taken with one core, or refused once.
use Rattle.std.proofs.Common.{◌≡◌, ◌∙◌, ℕ, ◌≤◌, ◌<◌, List, Option, Some, None, Result, Ok, Err, refl, sym, ap, subst, arith}
use Rattle.cf_core.specs.FromUnit.{Unit as CoreUnit}
use Rattle.cf_first.specs.First.{First, Refusal, breaks, passes, not_built}
use Rattle.cf_sequence_built.specs.Unbuilt.{in_file}
use Rattle.cf_compile.specs.Takes.{Takes, FilesAreTakenOnce, unbuilt_at, frame_bound, most_frame, frame_limit, has_no_core, is_not_sequenced, passes_frame, is_not_lowered, is_taken}
use Rattle.cf_compile.specs.Tests.{Lowers}

abbrev pub FilesHaveOneAnswer : Type 0
FilesHaveOneAnswer = (bytes : List ℕ) (a b : Result CoreUnit Refusal) → First bytes a → First bytes b → a ≡ b

-- ---- the answer of a core

data Of (core : CoreUnit) (a : Result CoreUnit Refusal) : Type 0 where
  unsequenced : (at : ℕ) → in_file core ≡ Some at → a ≡ Err (breaks (unbuilt_at at)) → Of core a
  past : in_file core ≡ None → most_frame < frame_bound core → a ≡ Err (passes frame_limit) → Of core a
  unlowered : in_file core ≡ None → frame_bound core ≤ most_frame → (Lowers core → ⊥) → a ≡ Err (breaks not_built) → Of core a
  lowered : in_file core ≡ None → frame_bound core ≤ most_frame → Lowers core → a ≡ Ok core → Of core a

same_place : (o : Option ℕ) (at to : ℕ) → o ≡ Some at → o ≡ Some to → at ≡ to
same_place o at to e f = cc

no_place : {A : Type 0} (o : Option ℕ) (at : ℕ) → o ≡ Some at → o ≡ None → A
no_place o at e f = absurd (cc)

within_or_past : {A : Type 0} (n m : ℕ) → m < n → n ≤ m → A
within_or_past n m over within = absurd (omega arith)

module _ (core : CoreUnit) (a b : Result CoreUnit Refusal) where
  same : (x : Result CoreUnit Refusal) → a ≡ x → b ≡ x → a ≡ b
  same x e f = e ∙ sym f

  of_once : Of core a → Of core b → a ≡ b
  of_once (unsequenced at e p) (unsequenced to f q) = p ∙ (ap (λ n. Err (breaks (unbuilt_at n))) (same_place (in_file core) at to e f) ∙ sym q)
  of_once (unsequenced at e p) (past f g q) = no_place (in_file core) at e f
  of_once (unsequenced at e p) (unlowered f g h q) = no_place (in_file core) at e f
  of_once (unsequenced at e p) (lowered f g h q) = no_place (in_file core) at e f
  of_once (past e g p) (unsequenced to f q) = no_place (in_file core) to f e
  of_once (past e g p) (past f h q) = same (Err (passes frame_limit)) p q
  of_once (past e g p) (unlowered f h i q) = within_or_past (frame_bound core) most_frame g h
  of_once (past e g p) (lowered f h i q) = within_or_past (frame_bound core) most_frame g h
  of_once (unlowered e g h p) (unsequenced to f q) = no_place (in_file core) to f e
  of_once (unlowered e g h p) (past f i q) = within_or_past (frame_bound core) most_frame i g
  of_once (unlowered e g h p) (unlowered f i j q) = same (Err (breaks not_built)) p q
  of_once (unlowered e g h p) (lowered f i j q) = absurd (h j)
  of_once (lowered e g h p) (unsequenced to f q) = no_place (in_file core) to f e
  of_once (lowered e g h p) (past f i q) = within_or_past (frame_bound core) most_frame i g
  of_once (lowered e g h p) (unlowered f i j q) = absurd (j h)
  of_once (lowered e g h p) (lowered f i j q) = same (Ok core) p q

-- ---- the answer of a file

data Is (bytes : List ℕ) (a : Result CoreUnit Refusal) : Type 0 where
  lacks : (r : Refusal) → First bytes (Err r) → a ≡ Err r → Is bytes a
  has : (core : CoreUnit) → First bytes (Ok core) → Of core a → Is bytes a

is : (bytes : List ℕ) (a : Result CoreUnit Refusal) → Takes bytes a → Is bytes a
is bytes _ (has_no_core r first) = lacks r first refl
is bytes _ (is_not_sequenced core at first place) = has core first (unsequenced at place refl)
is bytes _ (passes_frame core first built beyond) = has core first (past built beyond refl)
is bytes _ (is_not_lowered core first built within not) = has core first (unlowered built within not refl)
is bytes _ (is_taken core first built within lowers) = has core first (lowered built within lowers refl)

module _ (one : FilesHaveOneAnswer) (bytes : List ℕ) where
  one_core : (c d : CoreUnit) → First bytes (Ok c) → First bytes (Ok d) → c ≡ d
  one_core c d p q = let e = one bytes (Ok c) (Ok d) p q in cc

  core_or_not : {A : Type 0} (c : CoreUnit) (r : Refusal) → First bytes (Ok c) → First bytes (Err r) → A
  core_or_not c r p q = let e = one bytes (Ok c) (Err r) p q in absurd (cc)

  is_once : (a b : Result CoreUnit Refusal) → Is bytes a → Is bytes b → a ≡ b
  is_once a b (lacks r p e) (lacks s q f) = e ∙ (one bytes (Err r) (Err s) p q ∙ sym f)
  is_once a b (lacks r p e) (has d q f) = core_or_not d r q p
  is_once a b (has c p e) (lacks s q f) = core_or_not c s p q
  is_once a b (has c p e) (has d q f) = of_once c a b e (subst (λ x. Of x b) (one_core d c q p) f)

pub taken_once : FilesHaveOneAnswer → FilesAreTakenOnce
taken_once one bytes a b t u = is_once one bytes a b (is bytes a t) (is bytes b u)
