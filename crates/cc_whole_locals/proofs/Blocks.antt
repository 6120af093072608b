-- The blocks of locals and parameters, as they are born, and as they end.
use Rattle.std.proofs.Common.{◌≡◌, ℕ, zero, suc, ◌+◌, ◌<◌, ◌≤◌, false, ◌==◌, List, [], ◌∷◌, length, refl, sym, ◌∙◌, ap, subst, arith}
use Rattle.std.specs.Prelude.{Bool, true, if◌then◌else◌, Option, Some, None, slice_get}
use Rattle.std.proofs.lemmas.Bool.Decides.{nat_tests}
use Rattle.cc_whole.specs.declared.statement.CLocal.{CLocal}
use Rattle.cc_whole_memory.specs.declared.store.Storage.TheVariants as storage
use Rattle.cc_whole_memory.specs.declared.value.Value.{Value}
use Rattle.cc_whole_memory.specs.Blocks.{Block, Memory, put_block, new_block, born, ended}
use Rattle.cc_whole_mean.specs.Flow.{born_locals, born_holding, born_arguments, ended_from}
use Rattle.cc_whole_mean.specs.Types.{local_size}
use Rattle.cc_whole_locals.specs.Held.{holding}

-- ---- a block that is put

put-same : (b : ℕ) (x : Option Block) (blocks : ℕ → Option Block) → put_block b x blocks b ≡ x
put-same b x blocks = ap (λ (t : Bool). if t then x else blocks b) (let e : b == b ≡ true = grind (arith, nat_tests) in e)

put-other : (b c : ℕ) (x : Option Block) (blocks : ℕ → Option Block) → c == b ≡ false → put_block b x blocks c ≡ blocks c
put-other b c x blocks e = ap (λ (t : Bool). if t then x else blocks c) e

apart-below : (b c : ℕ) → c < b → c == b ≡ false
apart-below b c lt = grind (arith, nat_tests, lt)

apart-above : (b c : ℕ) → b < c → c == b ≡ false
apart-above b c lt = grind (arith, nat_tests, lt)

-- ---- locals

pub locals-below : (xs : List CLocal) (m : Memory) (b : ℕ) → b < m.next → (born_locals xs m).block b ≡ m.block b
locals-below [] m b lt = refl
locals-below (x ∷ xs) m b lt =
    locals-below xs (born storage.Local (local_size x.ty) m) b (omega (arith, lt))
    ∙ put-other m.next b (Some (new_block storage.Local (local_size x.ty))) m.block (apart-below m.next b lt)

pub locals-next : (xs : List CLocal) (m : Memory) → (born_locals xs m).next ≡ m.next + length xs
locals-next [] m = let e : m.next ≡ m.next + 0 = omega arith in e
locals-next (x ∷ xs) m =
    let rest = locals-next xs (born storage.Local (local_size x.ty) m) in
    rest ∙ (let e : suc m.next + length xs ≡ m.next + suc (length xs) = omega arith in e)

some-local : {x y : CLocal} → Some x ≡ Some y → x ≡ y
some-local e = cc

pub local-born : (xs : List CLocal) (m : Memory) (i : ℕ) (x : CLocal) → slice_get xs i ≡ Some x
    → (born_locals xs m).block (m.next + i) ≡ Some (new_block storage.Local (local_size x.ty))
local-born [] m i x e = absurd (let k = e in cc)
local-born (y ∷ ys) m zero x e =
    ap (born_locals (y ∷ ys) m).block (let n : m.next + 0 ≡ m.next = omega arith in n)
    ∙ locals-below ys (born storage.Local (local_size y.ty) m) m.next (omega arith)
    ∙ put-same m.next (Some (new_block storage.Local (local_size y.ty))) m.block
    ∙ ap (λ (z : CLocal). Some (new_block storage.Local (local_size z.ty))) (some-local e)
local-born (y ∷ ys) m (suc i) x e =
    ap (born_locals (y ∷ ys) m).block (let n : m.next + suc i ≡ suc m.next + i = omega arith in n)
    ∙ local-born ys (born storage.Local (local_size y.ty) m) i x e

-- ---- parameters

pub arguments-below : (vs : List Value) (m : Memory) (b : ℕ) → b < m.next → (born_arguments vs m).block b ≡ m.block b
arguments-below [] m b lt = refl
arguments-below (v ∷ vs) m b lt =
    arguments-below vs (born_holding v m) b (omega (arith, lt)) ∙ put-other m.next b (Some (holding v)) m.block (apart-below m.next b lt)

pub arguments-next : (vs : List Value) (m : Memory) → (born_arguments vs m).next ≡ m.next + length vs
arguments-next [] m = let e : m.next ≡ m.next + 0 = omega arith in e
arguments-next (v ∷ vs) m =
    let rest = arguments-next vs (born_holding v m) in
    rest ∙ (let e : suc m.next + length vs ≡ m.next + suc (length vs) = omega arith in e)

some-value : {x y : Value} → Some x ≡ Some y → x ≡ y
some-value e = cc

pub argument-born : (vs : List Value) (m : Memory) (i : ℕ) (v : Value) → slice_get vs i ≡ Some v → (born_arguments vs m).block (m.next + i) ≡ Some (holding v)
argument-born [] m i v e = absurd (let k = e in cc)
argument-born (y ∷ ys) m zero v e =
    ap (born_arguments (y ∷ ys) m).block (let n : m.next + 0 ≡ m.next = omega arith in n)
    ∙ arguments-below ys (born_holding y m) m.next (omega arith)
    ∙ put-same m.next (Some (holding y)) m.block
    ∙ ap (λ (z : Value). Some (holding z)) (some-value e)
argument-born (y ∷ ys) m (suc i) v e =
    ap (born_arguments (y ∷ ys) m).block (let n : m.next + suc i ≡ suc m.next + i = omega arith in n) ∙ argument-born ys (born_holding y m) i v e

-- ---- blocks that end

pub ended-next : (k b : ℕ) (m : Memory) → (ended_from k b m).next ≡ m.next
ended-next zero b m = refl
ended-next (suc k) b m = ended-next k (suc b) (ended b m)

-- a block of a lower number stays
pub ended-below : (k b : ℕ) (m : Memory) (c : ℕ) → c < b → (ended_from k b m).block c ≡ m.block c
ended-below zero b m c lt = refl
ended-below (suc k) b m c lt = ended-below k (suc b) (ended b m) c (omega (arith, lt)) ∙ put-other b c None m.block (apart-below b c lt)

-- and of a number behind the last
pub ended-above : (k b : ℕ) (m : Memory) (c : ℕ) → b + k ≤ c → (ended_from k b m).block c ≡ m.block c
ended-above zero b m c le = refl
ended-above (suc k) b m c le = ended-above k (suc b) (ended b m) c (omega (arith, le)) ∙ put-other b c None m.block (apart-above b c (omega (arith, le)))

pub ended-gone : (k b : ℕ) (m : Memory) (i : ℕ) → i < k → (ended_from k b m).block (b + i) ≡ None
ended-gone zero b m i lt = absurd (omega (arith, lt))
ended-gone (suc k) b m zero lt =
    ap (ended_from (suc k) b m).block (let n : b + 0 ≡ b = omega arith in n) ∙ ended-below k (suc b) (ended b m) b (omega arith) ∙ put-same b None m.block
ended-gone (suc k) b m (suc i) lt =
    ap (ended_from (suc k) b m).block (let n : b + suc i ≡ suc b + i = omega arith in n) ∙ ended-gone k (suc b) (ended b m) i (omega (arith, lt))
