-- The limits are asked of numbers of 64 bits as well as of the exact ones.
use Rattle.std.proofs.Common.{◌≡◌, ℕ, zero, suc, ◌*◌, ◌-◌, ◌^◌, ◌<◌, ◌≤◌, Bool, true, false, cond, nat_lt, nat_le, Ok, Err, refl, ap, sym, ◌∙◌, arith}
use Rattle.std.proofs.Math.Nat.{le-mul_of_pos_right}
use Rattle.std.proofs.lemmas.Bool.Decides.{nat_tests}
use Rattle.cc_whole_limits.specs.declared.limit.StartLimit.TheVariants as limit
use Rattle.cc_whole_limits.specs.Sums.{capped}
use Rattle.cc_whole_limits.specs.StartLimit.{most_nodes, most_frames, frames_allow, allows}

pub nodes-test : (n : ℕ) → nat_lt most_nodes (capped n) ≡ nat_lt most_nodes n
nodes-test n = by (nat_lt most_nodes (capped n)) (nat_lt most_nodes n) refl refl
  where
    by : (a b : Bool) → nat_lt most_nodes (capped n) ≡ a → nat_lt most_nodes n ≡ b → a ≡ b
    by true true e h = refl
    by false false e h = refl
    by true false e h = let bad : most_nodes < capped n = grind (arith, nat_tests, e) in let few : n ≤ most_nodes = grind (arith, nat_tests, h) in absurd (omega (arith, bad, few))
    by false true e h = let few : capped n ≤ most_nodes = grind (arith, nat_tests, e) in let bad : most_nodes < n = grind (arith, nat_tests, h) in absurd (omega (arith, bad, few))

-- beyond 64 bits a product passes the limit
past : (product other : ℕ) → 2 ^ 64 - 1 ≤ product → 2 ^ 64 - 1 ≤ other → frames_allow product ≡ frames_allow other
past product other le more = at product le ∙ sym (at other more)
  where
    at : (n : ℕ) → 2 ^ 64 - 1 ≤ n → frames_allow n ≡ Err (limit.Frames (2 ^ 64 - 1))
    at n le =
        ap (λ t. cond t (Err (limit.Frames (capped n))) (Ok tt)) (let h : nat_lt most_frames n ≡ true = grind (arith, nat_tests, le) in h)
        ∙ ap (λ k. Err (limit.Frames k)) (let h : capped n ≡ 2 ^ 64 - 1 = omega (arith, le) in h)

frames-test : (f depth : ℕ) → frames_allow (capped f * depth) ≡ frames_allow (f * depth)
frames-test f zero = ap frames_allow (let h : capped f * 0 ≡ f * 0 = omega arith in h)
frames-test f (suc depth) = by (nat_le f (2 ^ 64 - 1)) refl
  where
    by : (b : Bool) → nat_le f (2 ^ 64 - 1) ≡ b → frames_allow (capped f * suc depth) ≡ frames_allow (f * suc depth)
    by true e = ap (λ k. frames_allow (k * suc depth)) (let le : f ≤ 2 ^ 64 - 1 = grind (arith, nat_tests, e) in let h : capped f ≡ f = omega (arith, le) in h)
    by false e =
        let more : 2 ^ 64 - 1 < f = grind (arith, nat_tests, e) in
        let is : capped f ≡ 2 ^ 64 - 1 = omega (arith, more) in
        past (capped f * suc depth) (f * suc depth)
        (let h : capped f ≤ capped f * suc depth = grows (capped f) depth in omega (arith, h, is)) (let h : f ≤ f * suc depth = grows f depth in omega (arith, h, more))
      where
        grows : (a d : ℕ) → a ≤ a * suc d
        grows a d = le-mul_of_pos_right {m = suc d} a (omega arith)

pub allows-capped : (n f depth : ℕ) → allows (capped n) (capped f) depth ≡ allows n f depth
allows-capped n f depth =
    ap (λ t. cond t (Err limit.Nodes) (frames_allow (capped f * depth))) (nodes-test n)
    ∙ ap (λ r. cond (nat_lt most_nodes n) (Err limit.Nodes) r) (frames-test f depth)
