-- Where the locals that are added to a function begin.
use Rattle.std.proofs.Common.{◌≡◌, ℕ, ◌+◌, arith}

pub none_before : (a b n m : ℕ) → n ≡ 0 + a → m ≡ n + b → m ≡ a + b
none_before a b n m first second = omega (arith, first, second)
