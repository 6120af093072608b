-- The parts that are set, from the last one on.
use Rattle.std.proofs.Common.{◌≡◌, ℕ, ◌+◌, Bool, true, false, ◌&&◌, ◌||◌, List, [], ◌∷◌, ◌++◌, map, reverse, sym, ap, ◌∙◌}
use Rattle.std.specs.Prelude.{nat_le}
use Rattle.std.proofs.lemmas.List.{map-append, reverse-append}
use Rattle.cf_lower_program.specs.Alike.{clear_of}
use Rattle.cf_lowerable_starts.specs.declared.parts.Part.{Part as CodePart}
use Rattle.cf_lowerable_starts.specs.Telling.{part_in, parts_in}

pub one_more : (ps : List CodePart) (p : CodePart) → parts_in (ps ++ p ∷ []) ≡ part_in p ∷ parts_in ps
one_more ps p = ap reverse (map-append part_in ps (p ∷ [])) ∙ reverse-append (map part_in ps) (part_in p ∷ [])

module _ (start n : ℕ) where
  abbrev apart : CodePart → Bool
  apart p = nat_le (p.start + p.size) start || nat_le (start + n) p.start

  module _ (all front : List CodePart) (p : CodePart) (is : all ≡ front ++ p ∷ []) (b whole : Bool) (told : b ≡ apart p)
      (so_far : clear_of start n (parts_in all) ≡ whole) where
    here_by : (b && clear_of start n (parts_in front)) ≡ whole
    here_by =
        ap (λ c. c && clear_of start n (parts_in front)) told ∙ sym (ap (clear_of start n) (one_more front p)) ∙ sym (ap (λ l. clear_of start n (parts_in l)) is)
        ∙ so_far

    pub clear_more : b ≡ true → clear_of start n (parts_in front) ≡ whole
    clear_more e = sym (ap (λ c. c && clear_of start n (parts_in front)) e) ∙ here_by

    pub clear_not : b ≡ false → false ≡ whole
    clear_not e = sym (ap (λ c. c && clear_of start n (parts_in front)) e) ∙ here_by

  pub clear_none : (all : List CodePart) (whole : Bool) → all ≡ [] → clear_of start n (parts_in all) ≡ whole → true ≡ whole
  clear_none all whole none so_far = sym (ap (λ l. clear_of start n (parts_in l)) none) ∙ so_far
