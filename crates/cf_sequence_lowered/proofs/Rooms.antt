-- Registers and locals that are left for the nodes of a core: each node takes three registers at most, and its added locals have their flags below those.
use Rattle.std.proofs.Common.{◌≡◌, ℕ, suc, ◌+◌, ◌*◌, ◌<◌, ◌≤◌, List, [], ◌∷◌, ◌++◌, length, length-append, ap, ◌∙◌, subst, arith}
use Rattle.std.proofs.lemmas.List.Concat.{flat_map-append}
use Rattle.cf_core.specs.Types.{SourceType}
use Rattle.cf_core.specs.Core.{Core}
use Rattle.cf_plain.specs.Plain.{Register}
use Rattle.cf_sequence.specs.Made.{added, makes}
use Rattle.cf_sequence.specs.Expressions.{Full, flag}

-- the locals of two rows of nodes
pub added-two : (xs ys : List Core) → length (added (xs ++ ys)) ≡ length (added xs) + length (added ys)
added-two xs ys = ap length (flat_map-append makes xs ys) ∙ length-append (added xs) (added ys)

added-none : (e : Core) (es : List Core) → makes e ≡ [] → length (added (e ∷ es)) ≡ length (added es)
added-none e es none = ap (λ (l : List SourceType). length (l ++ added es)) none

added-more : (e : Core) (es : List Core) → length (added (e ∷ es)) ≡ length (makes e) + length (added es)
added-more e es = length-append (makes e) (added es)

-- B registers, and added locals from p on
module _ (B p : ℕ) where
  -- for nodes of a part of a full expression, whose value comes into register n, and whose locals are numbered from k
  pub record Room (x : Full) (n k : ℕ) (es : List Core) : Type 0 where
    pub registers : n + 3 * length es ≤ B
    pub flags : x.base + (k + length (added es)) ≤ B + x.first
    pub begun : x.first ≤ k
    pub behind : p ≤ k

  module _ (x : Full) (k : ℕ) where
    pub low : (n : Register) (e : Core) (es : List Core) → Room x n k (e ∷ es) → suc (suc n) < B
    low n e es r = let a = r.registers in omega arith

    pub lowest : (n : Register) (e : Core) (es : List Core) → Room x n k (e ∷ es) → n < B
    lowest n e es r = let a = low n e es r in omega arith

    pub lower : (n : Register) (e : Core) (es : List Core) → Room x n k (e ∷ es) → suc n < B
    lower n e es r = let a = low n e es r in omega arith

    -- the parts of a node that adds nothing, in this register or one of the next two
    pub room-parts : (n m : Register) (e : Core) (es : List Core) → makes e ≡ [] → m ≤ suc (suc n) → Room x n k (e ∷ es) → Room x m k es
    room-parts n m e es none le r =
        let a = r.registers in
        let b = r.flags in
        let same = added-none e es none in
        record { registers = omega arith; flags = omega arith; begun = r.begun; behind = r.behind }

    pub room-left : (n : Register) (xs ys : List Core) → Room x n k (xs ++ ys) → Room x n k xs
    room-left n xs ys r =
        let a = subst (λ l. n + 3 * l ≤ B) (length-append xs ys) r.registers in
        let b = subst (λ l. x.base + (k + l) ≤ B + x.first) (added-two xs ys) r.flags in
        record { registers = omega arith; flags = omega arith; begun = r.begun; behind = r.behind }

    pub room-right : (n : Register) (xs ys : List Core) → Room x n k (xs ++ ys) → Room x n (k + length (added xs)) ys
    room-right n xs ys r =
        let a = subst (λ l. n + 3 * l ≤ B) (length-append xs ys) r.registers in
        let b = subst (λ l. x.base + (k + l) ≤ B + x.first) (added-two xs ys) r.flags in
        let c = r.begun in
        let d = r.behind in
        record { registers = omega arith; flags = omega arith; begun = omega arith; behind = omega arith }

    pub room-third : (n : Register) (xs ys zs : List Core) → Room x n k (xs ++ ys ++ zs) → Room x n (k + length (added xs) + length (added ys)) zs
    room-third n xs ys zs r =
        let two = added-two xs ys in
        let e : k + length (added (xs ++ ys)) ≡ k + length (added xs) + length (added ys) = omega arith in
        subst (λ k. Room x n k zs) e (room-right n (xs ++ ys) zs r)

    -- behind what a node adds
    pub room-behind : (n m : Register) (e : Core) (es : List Core) → m ≤ suc (suc n) → Room x n k (e ∷ es) → Room x m (k + length (makes e) + 0) es
    room-behind n m e es le r =
        let a = r.registers in
        let b = subst (λ l. x.base + (k + l) ≤ B + x.first) (added-more e es) r.flags in
        let c = r.begun in
        let d = r.behind in
        record { registers = omega arith; flags = omega arith; begun = omega arith; behind = omega arith }

    pub room-next : (n m : Register) (e : Core) (es : List Core) → length (makes e) ≡ 1 → m ≤ suc (suc n) → Room x n k (e ∷ es) → Room x m (suc k) es
    room-next n m e es one le r =
        let a = r.registers in
        let b = subst (λ l. x.base + (k + l) ≤ B + x.first) (added-more e es) r.flags in
        let c = r.begun in
        let d = r.behind in
        record { registers = omega arith; flags = omega arith; begun = omega arith; behind = omega arith }

    -- the flag of a temporary
    pub flag-low : (n : Register) (e : Core) (es : List Core) → length (makes e) ≡ 1 → Room x n k (e ∷ es) → flag x k < B
    flag-low n e es one r =
        let b = subst (λ l. x.base + (k + l) ≤ B + x.first) (added-more e es) r.flags in
        let c = r.begun in
        omega arith

  -- W for the flags of a full expression
  module _ (W : ℕ) where
    -- for statements and initialisers, of a place in register n, with loops and switches that deep in each other
    pub record Space (d n k : ℕ) (es : List Core) : Type 0 where
      pub registers : n + W + 3 * length es + W * length es ≤ B
      pub width : 4 + length (added es) ≤ W
      pub behind : p ≤ k
      pub depth : length es ≤ d

    module _ (d : ℕ) where
      pub space-parts : (n k : ℕ) (e : Core) (es : List Core) → makes e ≡ [] → Space d n k (e ∷ es) → Space d n k es
      space-parts n k e es none r =
          let a = r.registers in
          let b = r.width in
          let c = r.depth in
          let same = added-none e es none in
          record { registers = omega arith; width = omega arith; behind = r.behind; depth = omega arith }

      pub space-left : (n k : ℕ) (xs ys : List Core) → Space d n k (xs ++ ys) → Space d n k xs
      space-left n k xs ys r =
          let a = subst (λ l. n + W + 3 * l + W * l ≤ B) (length-append xs ys) r.registers in
          let b = subst (λ l. 4 + l ≤ W) (added-two xs ys) r.width in
          let c = subst (λ l. l ≤ d) (length-append xs ys) r.depth in
          record { registers = omega arith; width = omega arith; behind = r.behind; depth = omega arith }

      pub space-right : (n k : ℕ) (xs ys : List Core) → Space d n k (xs ++ ys) → Space d n (k + length (added xs)) ys
      space-right n k xs ys r =
          let a = subst (λ l. n + W + 3 * l + W * l ≤ B) (length-append xs ys) r.registers in
          let b = subst (λ l. 4 + l ≤ W) (added-two xs ys) r.width in
          let c = subst (λ l. l ≤ d) (length-append xs ys) r.depth in
          let e = r.behind in
          record { registers = omega arith; width = omega arith; behind = omega arith; depth = omega arith }

      -- the elements of a list, in the register behind the list's flags
      pub space-elements : (n k : ℕ) (e : Core) (es : List Core) → makes e ≡ [] → Space d n k (e ∷ es) → Space d (suc n + length (added (e ∷ es))) k es
      space-elements n k e es none r =
          let a = r.registers in
          let b = r.width in
          let c = r.depth in
          let same = added-none e es none in
          record { registers = omega arith; width = omega arith; behind = r.behind; depth = omega arith }

      pub space-low : (n k : ℕ) (e : Core) (es : List Core) → Space d n k (e ∷ es) → suc (suc n) < B
      space-low n k e es r =
          let a = r.registers in
          let b = r.width in
          omega arith

    -- inside a loop or switch
    pub space-inside : (d l n k : ℕ) (es : List Core) → length es ≤ l → Space d n k es → Space l n k es
    space-inside d l n k es le r = record { registers = r.registers; width = r.width; behind = r.behind; depth = le }
