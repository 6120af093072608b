-- No token could have been longer.
use Rattle.std.proofs.Common.{◌≡◌, ℕ, zero, suc, ◌+◌, ◌-◌, ◌<◌, ◌≤◌, List, [], ◌∷◌, take, drop, length, get_or, Bool, true, false, cond, refl, ap, sym, ◌∙◌, Option, Some, None, arith, nat_eq, nat_lt, ◌||◌, if◌then◌else◌, ◌⊎◌, inl, inr, get_or-take, pos, codes}
use Rattle.std.specs.List.{starts_with}
use Rattle.std.proofs.lemmas.List.{take_all, drop-take, take-take, length-take, length-take-le, length-drop}
use Rattle.cf_base.specs.Integers.{convert}
use Rattle.cf_base.specs.declared.kind.Kind.{Kind}
use Rattle.cf_base.specs.declared.kind.Kind.TheVariants as kind
use Rattle.cf_tokens.proofs.Prefixes.{leading_all}
use Rattle.cf_tokens.proofs.Unique.{same_length}
use Rattle.cf_tokens.proofs.Units.{unit_part, chosen, characters_part}
use Rattle.cf_tokens.specs.Class.{has, run, leading}
use Rattle.cf_tokens.specs.Character.{unit_at, character, closed}
use Rattle.cf_tokens.specs.Constant.{constant, constant_of, of_type}
use Rattle.cf_tokens.specs.Front.{front}
use Rattle.cf_tokens.specs.Gap.{line_comment, comment, comment_end, commented, directive, is_marker}
use Rattle.cf_tokens.specs.Keywords.{left_out}
use Rattle.cf_tokens.specs.Laws.{AreLongest}
use Rattle.cf_tokens.specs.Literal.{characters, literal, ended}
use Rattle.cf_tokens.specs.Name.{name, named, spelled, keyword_of, has_double}
use Rattle.cf_tokens.specs.Signs.{signs}
use Rattle.cf_tokens.specs.Symbol.{symbol, numbered}
use Rattle.cf_tokens.specs.Table.{index_in, stands_in}
use Rattle.cf_tokens.specs.declared.class.Class.TheVariants.{Blank, NameByte, Letter, Digit, InLine}
use Rattle.cf_tokens.specs.declared.piece.Piece.{Piece}
use Rattle.cf_tokens.specs.declared.piece.Piece.TheVariants.{Gap, Whole, Flaw}
use Rattle.cf_tokens.specs.declared.token.Word.{Word}
use Rattle.cf_tokens.specs.declared.token.Word.TheVariants.{Char, Keyword}

length_of : (v w : Word) (n m : ℕ) → Whole v n ≡ Whole w m → n ≡ m
length_of v w n m e = same_length (Whole w m) v w n m (sym e) refl

flaw_no_word : (rule : ℕ) (w : Word) (n : ℕ) → Flaw rule ≡ Whole w n → ⊥
flaw_no_word rule w n e = cc

gap_no_word : (k : ℕ) (w : Word) (n : ℕ) → Gap k ≡ Whole w n → ⊥
gap_no_word k w n e = cc

spelled_length : (bytes : List ℕ) (keyword : Option ℕ) (w : Word) (n : ℕ) → spelled bytes keyword ≡ Whole w n → length bytes ≡ n
spelled_length bytes (Some keyword) w n e =
    elim (chosen (stands_in left_out bytes) (Flaw 4) (Whole (Keyword keyword) (length bytes)) (Whole w n) e) [
      | inl (is, f) ↦ absurd (flaw_no_word 4 w n f)
      | inr (is, f) ↦ length_of _ w (length bytes) n f
    ]
spelled_length bytes None w n e = length_of _ w (length bytes) n e

named_length : (bytes : List ℕ) (w : Word) (n : ℕ) → named bytes ≡ Whole w n → length bytes ≡ n
unfolding named
named_length bytes w n e =
    elim (chosen (nat_lt 255 (length bytes) || has_double bytes) (Flaw 3) (spelled bytes (keyword_of bytes)) (Whole w n) e) [
      | inl (is, f) ↦ absurd (flaw_no_word 3 w n f)
      | inr (is, f) ↦ spelled_length bytes (keyword_of bytes) w n f
    ]

name_part : (m : ℕ) (text : List ℕ) (w : Word) (n : ℕ) → name text ≡ Whole w n → n < m → name (take m text) ≡ Whole w n
name_part m text w n e past =
    let long = named_length (leading NameByte text) w n e in
    ap named (leading_all (has NameByte) m text (omega arith)) ∙ e

of_type_length : (k : ℕ) (typed : Option (ℕ × Kind)) (w : Word) (n : ℕ) → of_type k typed ≡ Whole w n → k ≡ n
of_type_length k (Some typed) w n e = length_of _ w k n e
of_type_length k None w n e = absurd (flaw_no_word 5 w n e)

constant_part : (m : ℕ) (text : List ℕ) (w : Word) (n : ℕ) → constant text ≡ Whole w n → n < m → constant (take m text) ≡ Whole w n
unfolding constant
constant_part m text w n e past =
    let long = of_type_length (length (leading NameByte text)) (constant_of (leading NameByte text)) w n e in
    ap (λ s. of_type (length s) (constant_of s)) (leading_all (has NameByte) m text (omega arith)) ∙ e

abbrev marker : List ℕ → Piece
marker text = if is_marker (leading InLine text) then Gap (run InLine text) else Flaw 7

directive_no_word : (line : Bool) (text : List ℕ) (w : Word) (n : ℕ) → directive line text ≡ Whole w n → ⊥
unfolding directive
directive_no_word line text w n e =
    elim (chosen line (marker text) (Flaw 1) (Whole w n) e) [
      | inl (is, f) ↦ elim (chosen (is_marker (leading InLine text)) (Gap (run InLine text)) (Flaw 7) (Whole w n) f) [
        | inl (is2, g) ↦ gap_no_word _ w n g
        | inr (is2, g) ↦ flaw_no_word 7 w n g
      ]
      | inr (is, f) ↦ flaw_no_word 1 w n f
    ]

line_comment_no_word : (text : List ℕ) (w : Word) (n : ℕ) → line_comment text ≡ Whole w n → ⊥
unfolding line_comment
line_comment_no_word text w n e = gap_no_word _ w n e

commented_no_word : (end : Option ℕ) (w : Word) (n : ℕ) → commented end ≡ Whole w n → ⊥
commented_no_word (Some k) w n e = gap_no_word k w n e
commented_no_word None w n e = flaw_no_word 2 w n e

comment_no_word : (text : List ℕ) (w : Word) (n : ℕ) → comment text ≡ Whole w n → ⊥
unfolding comment
comment_no_word text w n e = commented_no_word (comment_end 2 (drop 2 text)) w n e

-- a character constant that ends behind its character
record Closes (text : List ℕ) (w : Word) (n : ℕ) : Type 0 where
  pub value : ℕ
  pub u : ℕ
  pub unit : unit_at (drop 1 text) ≡ Some (value, u)
  pub end : nat_eq (get_or text (u + 1) 0) 39 ≡ true
  pub is : Whole (Char (convert kind.Char (pos value))) (u + 2) ≡ Whole w n

closed_parts : (text : List ℕ) (unit : Option (ℕ × ℕ)) (w : Word) (n : ℕ) → unit_at (drop 1 text) ≡ unit → closed text unit ≡ Whole w n
    → Closes text w n
closed_parts text (Some (value, u)) w n is e =
    elim (chosen (nat_eq (get_or text (u + 1) 0) 39) (Whole (Char (convert kind.Char (pos value))) (u + 2)) (Flaw 5) (Whole w n) e) [
      | inl (end, f) ↦ record { value = value; u = u; unit = is; end = end; is = f }
      | inr (end, f) ↦ absurd (flaw_no_word 5 w n f)
    ]
closed_parts text None w n is e = absurd (flaw_no_word 5 w n e)

abbrev is_no_character : List ℕ → Bool
is_no_character text = nat_eq (get_or text 1 0) 39 || nat_lt 127 (get_or text 1 0)

character_parts : (text : List ℕ) (w : Word) (n : ℕ) → character text ≡ Whole w n → (is_no_character text ≡ false) × Closes text w n
unfolding character
character_parts text w n e =
    elim (chosen (is_no_character text) (Flaw 5) (closed text (unit_at (drop 1 text))) (Whole w n) e) [
      | inl (is, f) ↦ absurd (flaw_no_word 5 w n f)
      | inr (is, f) ↦ (is, closed_parts text (unit_at (drop 1 text)) w n refl f)
    ]

character_reads : (text : List ℕ) (value u : ℕ) → is_no_character text ≡ false → unit_at (drop 1 text) ≡ Some (value, u)
    → nat_eq (get_or text (u + 1) 0) 39 ≡ true → character text ≡ Whole (Char (convert kind.Char (pos value))) (u + 2)
unfolding character
character_reads text value u is unit end = rw (is, unit, end) refl

behind_first : (m : ℕ) (text : List ℕ) → 1 ≤ m → drop 1 (take m text) ≡ take (m - 1) (drop 1 text)
behind_first m text some =
    let whole : 1 + (m - 1) ≡ m = omega arith in
    ap (λ j. drop 1 (take j text)) (sym whole) ∙ drop-take 1 (m - 1) text

character_part : (m : ℕ) (text : List ℕ) (w : Word) (n : ℕ) → character text ≡ Whole w n → n < m → character (take m text) ≡ Whole w n
character_part m text w n e past =
    let (is, closes) = character_parts text w n e in
    let long : closes.u + 2 ≡ n = length_of _ w (closes.u + 2) n closes.is in
    let first : get_or (take m text) 1 0 ≡ get_or text 1 0 = get_or-take m text 1 0 (omega arith) in
    let last : get_or (take m text) (closes.u + 1) 0 ≡ get_or text (closes.u + 1) 0 = get_or-take m text (closes.u + 1) 0 (omega arith) in
    let unit : unit_at (drop 1 (take m text)) ≡ Some (closes.value, closes.u)
    = ap unit_at (behind_first m text (omega arith)) ∙ unit_part (m - 1) (drop 1 text) closes.value closes.u closes.unit (omega arith) in
    character_reads (take m text) closes.value closes.u (ap (λ b. nat_eq b 39 || nat_lt 127 b) first ∙ is) unit
    (ap (λ b. nat_eq b 39) last ∙ closes.end)
    ∙ closes.is

record Ends (text : List ℕ) (w : Word) (n : ℕ) : Type 0 where
  pub values : List ℕ
  pub k : ℕ
  pub read : characters (length (drop 1 text)) (drop 1 text) ≡ Some (values, k)
  pub is : ended (Some (values, k)) ≡ Whole w n
  pub long : k + 1 ≡ n

ended_parts : (text : List ℕ) (read : Option (List ℕ × ℕ)) (w : Word) (n : ℕ)
    → characters (length (drop 1 text)) (drop 1 text) ≡ read → ended read ≡ Whole w n → Ends text w n
ended_parts text (Some (values, k)) w n is e =
    record { values = values; k = k; read = is; is = e; long = length_of _ w (k + 1) n e }
ended_parts text None w n is e = absurd (flaw_no_word 5 w n e)

literal_part : (m : ℕ) (text : List ℕ) (w : Word) (n : ℕ) → literal text ≡ Whole w n → n < m → m ≤ length text
    → literal (take m text) ≡ Whole w n
unfolding literal
literal_part m text w n e past within =
    let ends = ended_parts text (characters (length (drop 1 text)) (drop 1 text)) w n refl e in
    let behind = behind_first m text (omega arith) in
    let turns : length (drop 1 (take m text)) ≡ m - 1 = ap length behind ∙ length-take-le (m - 1) (drop 1 text) (omega (arith, length-drop 1 text)) in
    let read : characters (length (drop 1 (take m text))) (drop 1 (take m text)) ≡ Some (ends.values, ends.k)
    = ap (λ bs. characters (length (drop 1 (take m text))) bs) behind
    ∙ characters_part (length (drop 1 text)) (length (drop 1 (take m text))) (m - 1) (drop 1 text) ends.values ends.k ends.read
    (omega (arith, ends.long)) (omega (arith, ends.long, turns)) in
    ap ended read ∙ ends.is

abbrev symbol_of : List ℕ → List ℕ → List ℕ → Piece
symbol_of a b c =
    numbered (numbered (numbered (Flaw 1) (length a) (index_in signs a)) (length b) (index_in signs b)) (length c) (index_in signs c)

numbered_parts : (other : Piece) (k : ℕ) (number : Option ℕ) (w : Word) (n : ℕ) → numbered other k number ≡ Whole w n
    → (k ≡ n) ⊎ ((number ≡ None) × (other ≡ Whole w n))
numbered_parts other k (Some number) w n e = inl (length_of _ w k n e)
numbered_parts other k None w n e = inr (refl, e)

symbol_of_one : (text : List ℕ) (w : Word) (n : ℕ) → symbol_of (take 1 text) (take 2 text) (take 3 text) ≡ Whole w n → n ≡ 1
    → 2 ≤ length text → symbol_of (take 1 text) (take 2 text) (take 2 text) ≡ Whole w n
symbol_of_one text w n e one within =
    let first : Piece = numbered (Flaw 1) (length (take 1 text)) (index_in signs (take 1 text)) in
    let second : Piece = numbered first (length (take 2 text)) (index_in signs (take 2 text)) in
    elim (numbered_parts second (length (take 3 text)) (index_in signs (take 3 text)) w n e) [
      | inl long ↦ absurd (omega (arith, long, length-take 3 text))
      | inr (none, f) ↦ elim (numbered_parts first (length (take 2 text)) (index_in signs (take 2 text)) w n f) [
        | inl long ↦ absurd (omega (arith, long, length-take 2 text))
        | inr (none2, g) ↦
            ap (λ o. numbered (numbered first (length (take 2 text)) o) (length (take 2 text)) o) none2 ∙ g
      ]
    ]

symbol_part : (m : ℕ) (text : List ℕ) (w : Word) (n : ℕ) → symbol text ≡ Whole w n → 1 ≤ n → n < m → m ≤ length text
    → symbol (take m text) ≡ Whole w n
unfolding symbol
symbol_part zero text w n e some past within = absurd (omega arith)
symbol_part (suc zero) text w n e some past within = absurd (omega arith)
symbol_part (suc (suc zero)) text w n e some past within =
    let all : take 3 (take 2 text) ≡ take 2 text = take_all 3 (take 2 text) (omega (arith, length-take 2 text)) in
    ap (λ a. symbol_of a (take 2 (take 2 text)) (take 3 (take 2 text))) (take-take 1 2 text (omega arith))
    ∙ (ap (λ b. symbol_of (take 1 text) b (take 3 (take 2 text))) (take-take 2 2 text (omega arith))
    ∙ (ap (λ c. symbol_of (take 1 text) (take 2 text) c) all
    ∙ symbol_of_one text w n e (omega arith) (omega arith)))
symbol_part (suc (suc (suc k))) text w n e some past within =
    let m : ℕ = suc (suc (suc k)) in
    ap (λ a. symbol_of a (take 2 (take m text)) (take 3 (take m text))) (take-take 1 m text (omega arith))
    ∙ (ap (λ b. symbol_of (take 1 text) b (take 3 (take m text))) (take-take 2 m text (omega arith))
    ∙ (ap (λ c. symbol_of (take 1 text) (take 2 text) c) (take-take 3 m text (omega arith))
    ∙ e))

choice : {A : Type 0} (b : Bool) (x y x' y' r : A) → (x ≡ r → x' ≡ r) → (y ≡ r → y' ≡ r) → cond b x y ≡ r → cond b x' y' ≡ r
choice true x y x' y' r f g e = f e
choice false x y x' y' r f g e = g e

front_part : (line : Bool) (b c : ℕ) (cs : List ℕ) (j : ℕ) (w : Word) (n : ℕ) → front line (b ∷ c ∷ cs) ≡ Whole w n → 1 ≤ n
    → n < suc (suc j) → suc (suc j) ≤ length (b ∷ c ∷ cs) → front line (b ∷ c ∷ take j cs) ≡ Whole w n
unfolding front
front_part line b c cs j w n here some past within =
    let text : List ℕ = b ∷ c ∷ cs in
    let r : Piece = Whole w n in
    choice (has Blank b) _ _ _ _ r (λ e. e)
    (choice (nat_eq b 35) _ _ _ _ r (λ e. absurd (directive_no_word line text w n e))
    (choice (has Letter b) _ _ _ _ r (λ e. name_part (suc (suc j)) text w n e past)
    (choice (has Digit b) _ _ _ _ r (λ e. constant_part (suc (suc j)) text w n e past)
    (choice (nat_eq b 39) _ _ _ _ r (λ e. character_part (suc (suc j)) text w n e past)
    (choice (nat_eq b 34) _ _ _ _ r (λ e. literal_part (suc (suc j)) text w n e past within)
    (choice (starts_with nat_eq text (codes "//")) _ _ _ _ r (λ e. absurd (line_comment_no_word text w n e))
    (choice (starts_with nat_eq text (codes "/*")) _ _ _ _ r (λ e. absurd (comment_no_word text w n e))
    (λ e. symbol_part (suc (suc j)) text w n e some past within)))))))) here

stays : (line : Bool) (text : List ℕ) (w : Word) (n m : ℕ) → front line text ≡ Whole w n → 1 ≤ n → n < m → m ≤ length text
    → front line (take m text) ≡ Whole w n
stays line [] w n m here some past within = absurd (omega arith)
stays line (b ∷ []) w n m here some past within = absurd (omega arith)
stays line (b ∷ c ∷ cs) w n zero here some past within = absurd (omega arith)
stays line (b ∷ c ∷ cs) w n (suc zero) here some past within = absurd (omega arith)
stays line (b ∷ c ∷ cs) w n (suc (suc j)) here some past within = front_part line b c cs j w n here some past within

pub are_longest : AreLongest
are_longest line text word longer n m here some past within there =
    let same : n ≡ m = same_length (front line (take m text)) word longer n m (stays line text word n m here some past within) there in
    omega arith
