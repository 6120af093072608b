-- Cutting a text from left to right.
use Rattle.std.proofs.Common.{Option, Some, None, ◌≡◌, ℕ, ◌+◌, ◌-◌, ◌<◌, ◌≤◌, Bool, List, [], ◌∷◌, ◌++◌, drop, length, Result, Ok, Err, refl, append_assoc, arith, ◌∙◌, sym, ap, subst}
use Rattle.std.specs.List.{All}
use Rattle.std.proofs.lemmas.List.Elements.{All-nil, All-cons, All-head, All-tail}
use Rattle.std.proofs.lemmas.List.{append-nil, length-drop}
use Rattle.std.proofs.lemmas.List.Sums.{fold-append}
use Rattle.cf_base.specs.declared.limit.Bound.TheVariants as bound
use Rattle.cf_base.specs.declared.rule.Broken.{Broken}
use Rattle.cf_tokens.specs.Front.{front}
use Rattle.cf_tokens.specs.Lex.{IsInside, literal_of, beside_as, add_behind, Cut, at_end, at_gap, at_token, at_flaw, add, beside, joined, put_before, token_at, starts_line, most_bytes, most_tokens, Lex, broken, too_many, listed, IsFault}
use Rattle.cf_tokens.specs.Piece.{IsWithin}
use Rattle.cf_tokens.specs.Cutting.{Goes, over_gap, over_token, Steps, Stops, CutsTo}
use Rattle.cf_tokens.specs.declared.fault.LexFault.{LexFault}
use Rattle.cf_tokens.specs.declared.fault.LexFault.TheVariants as fault
use Rattle.cf_tokens.specs.declared.piece.Piece.{Piece}
use Rattle.cf_tokens.specs.declared.piece.Piece.TheVariants.{Gap, Whole, Flaw}
use Rattle.cf_tokens.specs.declared.token.Token.{Token}
use Rattle.cf_tokens.specs.declared.token.Word.{Word}

-- these tokens before what the rest is cut into
abbrev pub before_rest : List Token → Result (List Token) Broken → Result (List Token) Broken
before_rest cut (Ok tokens) = Ok (cut ++ tokens)
before_rest cut (Err first) = Err first

-- what was found up to a place: however the rest is cut, the whole is cut so
pub record CutSoFar (text : List ℕ) (at : ℕ) (found : List Token) : Type 0 where
  pub cut : List Token
  pub is : found ≡ joined cut
  pub whole : (rest : Result (List Token) Broken) → Cut text at rest → Cut text 0 (before_rest cut rest)
  pub within : at ≤ length text
  pub inside : All (IsInside text) found

nil-before_rest : (rest : Result (List Token) Broken) → before_rest [] rest ≡ rest
nil-before_rest (Ok tokens) = refl
nil-before_rest (Err first) = refl

pub cut_nothing : (text : List ℕ) → CutSoFar text 0 []
cut_nothing text = record {
  cut = [];
  is = refl;
  whole = λ rest h. subst (λ r. Cut text 0 r) (sym (nil-before_rest rest)) h;
  within = omega arith;
  inside = All-nil (IsInside text);
}

before_rest-put_before : (cut : List Token) (token : Token) (rest : Result (List Token) Broken)
    → before_rest cut (put_before token rest) ≡ before_rest (cut ++ token ∷ []) rest
before_rest-put_before cut token (Ok tokens) = rw append_assoc refl
before_rest-put_before cut token (Err first) = refl

joined-push : (cut : List Token) (token : Token) → joined (cut ++ token ∷ []) ≡ add (joined cut) token
joined-push cut token = fold-append add [] cut (token ∷ [])

beside_as_inside : (text : List ℕ) (last next : Token) (x y : Option (List ℕ)) → IsInside text last → IsInside text next
    → All (IsInside text) (beside_as last next x y)
beside_as_inside text last next (Some xs) (Some ys) h k =
    All-cons (IsInside text) _ [] (omega (arith, h, k)) (All-nil (IsInside text))
beside_as_inside text last next (Some xs) None h k =
    All-cons (IsInside text) last (next ∷ []) h (All-cons (IsInside text) next [] k (All-nil (IsInside text)))
beside_as_inside text last next None ys h k =
    All-cons (IsInside text) last (next ∷ []) h (All-cons (IsInside text) next [] k (All-nil (IsInside text)))

add_behind_inside : (text : List ℕ) (next first : Token) (more : List Token) → IsInside text next → All (IsInside text) (first ∷ more)
    → All (IsInside text) (add_behind next first more)
add_behind_inside text next first [] h all =
    beside_as_inside text first next (literal_of first.word) (literal_of next.word) (All-head (IsInside text) first [] all) h
add_behind_inside text next first (second ∷ more) h all =
    All-cons (IsInside text) first (add_behind next second more) (All-head (IsInside text) first (second ∷ more) all)
    (add_behind_inside text next second more h (All-tail (IsInside text) first (second ∷ more) all))

add_inside : (text : List ℕ) (tokens : List Token) (next : Token) → All (IsInside text) tokens → IsInside text next
    → All (IsInside text) (add tokens next)
add_inside text [] next all h = All-cons (IsInside text) next [] h (All-nil (IsInside text))
add_inside text (first ∷ more) next all h = add_behind_inside text next first more h all

goes_on : (text : List ℕ) (at : ℕ) (old : List Token) (next : ℕ) (new : List Token)
    → Goes text at old next new → at < length text → next ≤ length text → CutSoFar text at old → CutSoFar text next new
goes_on text at old next new (over_gap n piece) inside within so_far = record {
  cut = so_far.cut;
  is = so_far.is;
  whole = λ rest h. so_far.whole rest (at_gap at n rest inside piece h);
  within = within;
  inside = so_far.inside;
}
goes_on text at old next new (over_token n word piece) inside within so_far =
    let token : Token = token_at word at n in
    record {
      cut = so_far.cut ++ token ∷ [];
      is = ap (λ found. add found token) so_far.is ∙ sym (joined-push so_far.cut token);
      whole = λ rest h. subst (λ r. Cut text 0 r) (before_rest-put_before so_far.cut token rest)
          (so_far.whole (put_before token rest) (at_token at n word rest inside piece h));
      within = within;
      inside = add_inside text old token so_far.inside within;
    }

pub cut_more : (text : List ℕ) (at : ℕ) (old : List Token) (next : ℕ) (new : List Token)
    → Steps text at old new next → at < length text → CutSoFar text at old → CutSoFar text next new
cut_more text at old next new steps inside so_far = goes_on text at old next new steps.goes inside steps.within so_far

pub cut_all : (text : List ℕ) (at : ℕ) (found : List Token) → CutSoFar text at found → length text ≤ at → CutsTo text found
cut_all text at found so_far end =
    let here : at ≡ length text = omega (arith, so_far.within) in
    let whole : Cut text 0 (Ok (so_far.cut ++ [])) = so_far.whole (Ok []) (at_end at here) in
    record {
      tokens = so_far.cut;
      cut = subst (λ tokens. Cut text 0 (Ok tokens)) (append-nil so_far.cut) whole;
      is = so_far.is;
      inside = so_far.inside;
    }

pub cut_stops : (text : List ℕ) (at : ℕ) (found : List Token) (e : LexFault) → CutSoFar text at found → Stops text at e → Stops text 0 e
cut_stops text at found fault.Memory so_far stops = tt
cut_stops text at found (fault.Broken first) so_far stops = so_far.whole (Err first) stops
cut_stops text at found (fault.Limit limit) so_far stops = stops

piece_here : (text rest : List ℕ) (at : ℕ) (line : Bool) (found is : Piece) → line ≡ starts_line text at → rest ≡ drop at text
    → found ≡ front line rest → found ≡ is → front (starts_line text at) (drop at text) ≡ is
piece_here text rest at line found is lines rests fronts same =
    ap (λ l. front l (drop at text)) (sym lines) ∙ (ap (front line) (sym rests) ∙ (sym fronts ∙ same))

length_here : (text rest : List ℕ) (at : ℕ) → rest ≡ drop at text → length rest ≡ length text - at
length_here text rest at rests = ap length rests ∙ length-drop at text

pub gap_step : (text rest : List ℕ) (at n : ℕ) (line : Bool) (piece : Piece) (found : List Token) → line ≡ starts_line text at
    → rest ≡ drop at text → piece ≡ front line rest → IsWithin (length rest) piece → piece ≡ Gap n → at < length text
    → Steps text at found found (at + n)
gap_step text rest at n line piece found lines rests fronts within is inside =
    let fits : (1 ≤ n) × (n ≤ length rest) = subst (IsWithin (length rest)) is within in
    let left = length_here text rest at rests in
    record {
      goes = over_gap n (piece_here text rest at line piece (Gap n) lines rests fronts is);
      forward = omega (arith, fits.0);
      within = omega (arith, fits.1, left);
    }

pub token_step : (text rest : List ℕ) (at n : ℕ) (line : Bool) (piece : Piece) (word : Word) (old new : List Token)
    → line ≡ starts_line text at → rest ≡ drop at text → piece ≡ front line rest → IsWithin (length rest) piece → piece ≡ Whole word n
    → at < length text → new ≡ add old (token_at word at n) → Steps text at old new (at + n)
token_step text rest at n line piece word old new lines rests fronts within is inside adds =
    let fits : (1 ≤ n) × (n ≤ length rest) = subst (IsWithin (length rest)) is within in
    let left = length_here text rest at rests in
    let goes : Goes text at old (at + n) (add old (token_at word at n))
    = over_token n word (piece_here text rest at line piece (Whole word n) lines rests fronts is) in
    record {
      goes = subst (λ found. Goes text at old (at + n) found) (sym adds) goes;
      forward = omega (arith, fits.0);
      within = omega (arith, fits.1, left);
    }

pub flaw_step : (text rest : List ℕ) (at rule : ℕ) (line : Bool) (piece : Piece) → line ≡ starts_line text at
    → rest ≡ drop at text → piece ≡ front line rest → piece ≡ Flaw rule → at < length text
    → Cut text at (Err (record { rule = rule; at = at }))
flaw_step text rest at rule line piece lines rests fronts is inside =
    at_flaw at rule inside (piece_here text rest at line piece (Flaw rule) lines rests fronts is)

pub add-last : (tokens : List Token) (last next : Token) → add (tokens ++ last ∷ []) next ≡ tokens ++ beside last next
add-last [] last next = refl
add-last (first ∷ []) last next = refl
add-last (first ∷ second ∷ more) last next = ap (λ rest. first ∷ rest) (add-last (second ∷ more) last next)

pub too_many_for : (text : List ℕ) (found : List Token) → length text ≤ most_bytes → CutsTo text found → most_tokens < length found
    → Lex text (Err (fault.Limit (record { bound = bound.Tokens; most = most_tokens })))
too_many_for text found short cuts many = too_many cuts.tokens short cuts.cut (subst (λ tokens. most_tokens < length tokens) cuts.is many)

pub listed_for : (text : List ℕ) (found : List Token) → length text ≤ most_bytes → CutsTo text found → length found ≤ most_tokens
    → Lex text (Ok found)
listed_for text found short cuts few =
    subst (λ tokens. Lex text (Ok tokens)) (sym cuts.is)
    (listed cuts.tokens short cuts.cut (subst (λ tokens. length tokens ≤ most_tokens) cuts.is few))

pub fault_for : (text : List ℕ) (e : LexFault) → length text ≤ most_bytes → Stops text 0 e → IsFault text e
fault_for text fault.Memory short stops = tt
fault_for text (fault.Broken first) short stops = broken first short stops
fault_for text (fault.Limit limit) short stops = absurd stops
