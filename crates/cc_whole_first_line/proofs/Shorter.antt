-- What is left of a text without a first line is no longer than the text.
use Rattle.std.proofs.Common.{◌≡◌, ℕ, ◌≤◌, Bool, true, false, List, [], ◌∷◌, length, drop, Option, Some, None, Result, Ok, Err, subst, arith}
use Rattle.std.specs.Prelude.{◌==◌, if◌then◌else◌}
use Rattle.std.specs.Char.{is_ascii_digit}
use Rattle.std.specs.List.{prefix_len}
use Rattle.std.proofs.lemmas.List.{length-drop}
use Rattle.cc_whole_tokens.specs.Cut.{is_blank}
use Rattle.cc_whole_first_line.specs.FirstLine.{is_space, without, from_end, number_in, behind_number, from_number, begins_words, from_words, first_line}

abbrev Line : Type 0
Line = Result (ℕ × List ℕ) (List ℕ)

-- the answer leaves no more than these bytes
abbrev Leaves : List ℕ → Line → Type 0
Leaves bs (Ok p) = Unit {0}
Leaves bs (Err left) = length left ≤ length bs

shorter : (n : ℕ) (bs : List ℕ) → length (drop n bs) ≤ length bs
shorter n bs = let l = length-drop n bs in omega (arith, l)

longer : (bs cs : List ℕ) (r : Line) → length bs ≤ length cs → Leaves bs r → Leaves cs r
longer bs cs (Ok p) e h = tt
longer bs cs (Err left) e h = omega (arith, e, h)

end_leaves : (n : ℕ) (bs : List ℕ) → Leaves bs (from_end n bs)
unfolding from_end
end_leaves n [] = omega arith
end_leaves n (b ∷ bs) = go (b == 10)
  where
    go : (t : Bool) → Leaves (b ∷ bs) (if◌then◌else◌ {A = Line} t (Ok (n, bs)) (Err (b ∷ bs)))
    go true = tt
    go false = omega arith

number_leaves : (bs : List ℕ) → Leaves bs (from_number bs)
unfolding from_number
number_leaves bs = go (number_in (prefix_len is_ascii_digit bs) bs) (prefix_len is_ascii_digit bs)
  where
    go : (v : Option ℕ) (n : ℕ) → Leaves bs (behind_number v n bs)
    go None n = omega arith
    go (Some v) n =
        let a = shorter (prefix_len is_space (drop n bs)) (drop n bs) in
        let b = shorter n bs in
        longer (without is_space (drop n bs)) bs (from_end v (without is_space (drop n bs))) (omega (arith, a, b)) (end_leaves v (without is_space (drop n bs)))

words_leave : (bs : List ℕ) → Leaves bs (from_words bs)
unfolding from_words
words_leave bs = go (begins_words bs)
  where
    go : (t : Bool) → Leaves bs (if◌then◌else◌ {A = Line} t (from_number (without is_blank (drop 14 bs))) (Err bs))
    go true =
        let a = shorter (prefix_len is_blank (drop 14 bs)) (drop 14 bs) in
        let b = shorter 14 bs in
        longer (without is_blank (drop 14 bs)) bs (from_number (without is_blank (drop 14 bs))) (omega (arith, a, b)) (number_leaves (without is_blank (drop 14 bs)))
    go false = omega arith

line_leaves : (text : List ℕ) → Leaves text (first_line text)
unfolding first_line
line_leaves text = longer (without is_blank text) text (from_words (without is_blank text)) (shorter (prefix_len is_blank text) text) (words_leave (without is_blank text))

pub no_longer : (text left : List ℕ) → first_line text ≡ Err left → length left ≤ length text
no_longer text left e = subst (Leaves text) e (line_leaves text)
