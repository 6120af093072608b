-- The pieces up to an index, put one after another.
use Rattle.std.proofs.Common.{◌≡◌, ◌∙◌, ℕ, ◌+◌, ◌<◌, List, [], ◌∷◌, ◌++◌, length, get_or, take, drop, map, refl, sym, ap, Bor, append_assoc, append-nil}
use Rattle.std.proofs.lemmas.List.{take_more, take-append-drop, map-append}
use Rattle.std.proofs.lemmas.List.Folds.{concat-append}
use Rattle.std.specs.List.{concat}
use Rattle.cf_base.specs.Stream.{IsFront, AddsFront}

abbrev pub joined : List (Bor (List ℕ)) → List ℕ
joined pieces = concat (map (λ (piece : Bor (List ℕ)). piece.now) pieces)

joined-append : (xs ys : List (Bor (List ℕ))) → joined (xs ++ ys) ≡ joined xs ++ joined ys
joined-append xs ys = ap concat (map-append (λ (piece : Bor (List ℕ)). piece.now) xs ys) ∙ concat-append (map (λ (piece : Bor (List ℕ)). piece.now) xs) (map (λ (piece : Bor (List ℕ)). piece.now) ys)

-- one more piece
pub joined_more : (pieces : List (Bor (List ℕ))) (i : ℕ) (d : Bor (List ℕ)) → i < length pieces
    → joined (take (i + 1) pieces) ≡ joined (take i pieces) ++ (get_or pieces i d).now
joined_more pieces i d within = ap joined (take_more pieces i d within) ∙ (joined-append (take i pieces) (get_or pieces i d ∷ [])
    ∙ ap (λ last. joined (take i pieces) ++ last) (append-nil (get_or pieces i d).now))

-- a front of the next piece, behind the pieces so far, is a front of all
pub front_of_all : (pieces : List (Bor (List ℕ))) (i : ℕ) (d : Bor (List ℕ)) (old mid new : List ℕ) → i < length pieces
    → mid ≡ old ++ joined (take i pieces) → AddsFront (get_or pieces i d).now mid new → AddsFront (joined pieces) old new
front_of_all pieces i d old mid new within so_far adds = record {
  front = joined (take i pieces) ++ adds.front;
  is_front = record {
    rest = adds.is_front.rest ++ joined (drop (i + 1) pieces);
    joined = ap joined (sym (take-append-drop (i + 1) pieces)) ∙ (joined-append (take (i + 1) pieces) (drop (i + 1) pieces)
        ∙ (ap (λ front. front ++ joined (drop (i + 1) pieces)) (joined_more pieces i d within ∙ ap (λ piece. joined (take i pieces) ++ piece) adds.is_front.joined)
        ∙ simp append_assoc));
  };
  added = adds.added ∙ (ap (λ front. front ++ adds.front) so_far ∙ append_assoc old (joined (take i pieces)) adds.front);
}

-- one more piece stands behind the pieces so far
pub one_more : (pieces : List (Bor (List ℕ))) (i : ℕ) (d : Bor (List ℕ)) (old mid new : List ℕ) → i < length pieces
    → mid ≡ old ++ joined (take i pieces) → new ≡ mid ++ (get_or pieces i d).now → new ≡ old ++ joined (take (i + 1) pieces)
one_more pieces i d old mid new within so_far more =
    more ∙ (ap (λ front. front ++ (get_or pieces i d).now) so_far ∙ (append_assoc old (joined (take i pieces)) (get_or pieces i d).now
    ∙ ap (λ all. old ++ all) (sym (joined_more pieces i d within))))
