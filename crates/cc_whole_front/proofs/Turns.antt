-- What stands at the front of a text, token by token.
use Rattle.std.proofs.Common.{◌≡◌, ℕ, suc, ◌+◌, ◌<◌, ◌≤◌, Bool, true, false, cond, ◌==◌, List, [], ◌∷◌, ◌++◌, length, take, drop, refl, ap, sym, ◌∙◌, subst, arith, Option, Some, None, append_assoc, append-nil}
use Rattle.std.proofs.lemmas.Bool.{false≢true, true≢false, eqb-true}
use Rattle.std.proofs.lemmas.List.{take-append-drop, drop_at, length-append, length-drop, length-take-le}
use Rattle.std.specs.List.{prefix_len}
use Rattle.cc_whole_tokens.specs.declared.token.Token.{Token}
use Rattle.cc_whole_tokens.specs.declared.token.Token.TheVariants as token
use Rattle.cc_whole_tokens.specs.Token.{begins, spelling, is_token, ends}
use Rattle.cc_whole_tokens.specs.Cut.{is_blank, Spelled}
use Rattle.cc_whole_cut.specs.declared.front.Shape.{Shape}
use Rattle.cc_whole_cut.specs.Front.{front, token_of}
use Rattle.cc_whole_cut.specs.Inside.{inside}
use Rattle.cc_whole_cut.specs.First.{first, string, shaped}
use Rattle.cc_whole_cut.proofs.Runs.{run_stops}
use Rattle.cc_whole_cut.proofs.Found.{found}
use Rattle.cc_whole_cut.proofs.Strings.{read_is}
use Rattle.cc_whole_cut.proofs.Firsts.{first_token, first_string}
use Rattle.cc_whole_refused.specs.Fronts.{Begins}
use Rattle.cc_whole_refused.specs.Fronts as fronts
use Rattle.cc_whole_front.specs.declared.front.Front.{Front}
use Rattle.cc_whole_front.specs.Front.{Placed, here, blank, NoToken, ended, stray, is_empty, IsFront}
use Rattle.cc_whole_front.specs.Front as places

-- ---- one token

-- a token stands at the front of these bytes, of this length
pub record Leads (bs : List ℕ) (q : Token × ℕ) : Type 0 where
  pub begins : Begins bs q.0
  pub placed : (n at : ℕ) (ts : List Token) (ps rest : List ℕ) → at + length bs ≡ n → Placed n (drop q.1 bs) ts ps rest → Placed n bs (q.0 ∷ ts) (at ∷ ps) rest

some_at : {X : Type 0} (P : X → Type 0) (x y : X) → P x → Some x ≡ Some y → P y
some_at P x y p e = let k : x ≡ y = cc in subst P k p

leads_token : (t : Token) (rest : List ℕ) → is_token t ≡ true → ends t rest ≡ true → Leads (spelling t ++ rest) (t, length (spelling t))
leads_token t rest is stop =
    record {
      begins = fronts.Begins.token t rest is stop;
      placed = λ n at ts ps end e h.
          places.Placed.token t at rest ts ps end is stop e (subst (λ z. Placed n z ts ps end) (drop_at (spelling t) rest (length (spelling t)) refl) h);
    }

leads_string : (xs bytes rest : List ℕ) (len : ℕ) → Spelled xs bytes → len ≡ length xs + 2 → Leads (34 ∷ (xs ++ (34 ∷ rest))) (token.Text bytes, len)
leads_string xs bytes rest len spelled e =
    let count : length (34 ∷ (xs ++ (34 ∷ []))) ≡ len = let l = length-append xs (34 ∷ []) in omega (arith, l, e) in
    let left : drop len (34 ∷ (xs ++ (34 ∷ rest))) ≡ rest =
    ap (λ z. drop len (34 ∷ z)) (sym (append_assoc xs (34 ∷ []) rest)) ∙ drop_at (34 ∷ (xs ++ (34 ∷ []))) rest len count in
    record {
      begins = fronts.Begins.string xs bytes rest spelled;
      placed = λ n at ts ps end e h. places.Placed.string xs bytes at rest ts ps end spelled e (subst (λ z. Placed n z ts ps end) left h);
    }

shaped_leads : (bs : List ℕ) (q : Token × ℕ) (o : Option (Shape × ℕ)) → front bs ≡ o → shaped o bs ≡ Some q → Leads bs q
shaped_leads bs q None f e = absurd (cc)
shaped_leads bs q (Some s) f e =
    let is = found bs s f in
    let t = token_of s.0 (take s.1 bs) in
    let whole : spelling t ++ drop s.1 bs ≡ bs = ap (λ x. x ++ drop s.1 bs) is.spelled ∙ take-append-drop s.1 bs in
    let count : length (spelling t) ≡ s.1 = ap length is.spelled ∙ length-take-le s.1 bs is.within in
    let l : Leads (spelling t ++ drop s.1 bs) (t, length (spelling t)) = leads_token t (drop s.1 bs) is.is is.ends in
    some_at (Leads bs) (t, s.1) q (subst (λ k. Leads bs (t, k)) count (subst (λ z. Leads z (t, length (spelling t))) whole l)) e

string_leads : (bs : List ℕ) (q : Token × ℕ) (o : Option (List ℕ × ℕ)) → inside (length bs) [] 0 bs ≡ o → string o ≡ Some q → Leads (34 ∷ bs) q
string_leads bs q None f e = absurd (cc)
string_leads bs q (Some s) f e =
    let r = read_is (length bs) [] 0 bs s f in
    let n = r.counted in
    let count : s.1 + 2 ≡ length r.xs + 2 = omega (arith, n) in
    let l : Leads (34 ∷ (r.xs ++ (34 ∷ r.rest))) (token.Text r.bytes, s.1 + 2) = leads_string r.xs r.bytes r.rest (s.1 + 2) r.spelled count in
    some_at (Leads (34 ∷ bs)) (token.Text s.0, s.1 + 2) q
    (subst (λ z. Leads (34 ∷ bs) (token.Text z, s.1 + 2)) (sym r.gives) (subst (λ z. Leads (34 ∷ z) (token.Text r.bytes, s.1 + 2)) (sym r.parts) l)) e

leads_by : (bs : List ℕ) (q : Token × ℕ) (t : Bool) → begins (λ b. b == 34) bs ≡ t → first bs ≡ Some q → Leads bs q
unfolding first
leads_by bs q false h e = shaped_leads bs q (front bs) refl (ap (λ b. cond b (string (inside (length (drop 1 bs)) [] 0 (drop 1 bs))) (shaped (front bs) bs)) (sym h) ∙ e)
leads_by [] q true h e = absurd (false≢true h)
leads_by (b ∷ bs) q true h e =
    let is : b ≡ 34 = eqb-true b 34 h in
    let k : first (34 ∷ bs) ≡ Some q = ap (λ x. first (x ∷ bs)) (sym is) ∙ e in
    subst (λ x. Leads (x ∷ bs) q) (sym is) (string_leads bs q (inside (length bs) [] 0 bs) refl k)

pub leads : (bs : List ℕ) (q : Token × ℕ) → first bs ≡ Some q → Leads bs q
leads bs q e = leads_by bs q (begins (λ b. b == 34) bs) refl e

-- where nothing is found no token begins
nothing_begins : (bs : List ℕ) (t : Token) → first bs ≡ None → Begins bs t → ⊥
nothing_begins _ _ e (fronts.Begins.token t bs is stop) = let k = sym (first_token t bs is stop) ∙ e in absurd (cc)
nothing_begins _ _ e (fronts.Begins.string xs bytes bs is) = let k = sym (first_string xs bytes bs is) ∙ e in absurd (cc)

-- ---- blanks

abbrev without_blanks : List ℕ → List ℕ
without_blanks bs = drop (prefix_len is_blank bs) bs

blanks_by : (n b : ℕ) (bs : List ℕ) (ts : List Token) (ps rest : List ℕ) (x : Bool) → is_blank b ≡ x
    → (Placed n (without_blanks bs) ts ps rest → Placed n bs ts ps rest)
    → Placed n (drop (cond x (1 + prefix_len is_blank bs) 0) (b ∷ bs)) ts ps rest → Placed n (b ∷ bs) ts ps rest
blanks_by n b bs ts ps rest true is f h =
    let s : 1 + prefix_len is_blank bs ≡ suc (prefix_len is_blank bs) = omega arith in
    blank b bs ts ps rest is (f (subst (λ m. Placed n (drop m (b ∷ bs)) ts ps rest) s h))
blanks_by n b bs ts ps rest false is f h = h

blanks_before : (n : ℕ) (bs : List ℕ) (ts : List Token) (ps rest : List ℕ) → Placed n (without_blanks bs) ts ps rest → Placed n bs ts ps rest
blanks_before n [] ts ps rest h = h
blanks_before n (b ∷ bs) ts ps rest h = blanks_by n b bs ts ps rest (is_blank b) refl (blanks_before n bs ts ps rest) h

-- ---- the loop

-- these tokens stand before the rest, and whatever stands at its front goes on
pub record Halfway (n : ℕ) (bytes rest : List ℕ) (out : List Token) (places : List ℕ) : Type 0 where
  pub goes_on : (ts : List Token) (ps end : List ℕ) → Placed n rest ts ps end → Placed n bytes (out ++ ts) (places ++ ps) end
  pub bare : begins is_blank rest ≡ false
  pub within : length rest ≤ length bytes

shorter : (n : ℕ) (bs : List ℕ) → length (drop n bs) ≤ length bs
shorter n bs = let l = length-drop n bs in omega (arith, l)

pub at_start : (n : ℕ) (bytes : List ℕ) → Halfway n bytes (without_blanks bytes) [] []
at_start n bytes = record {
  goes_on = λ ts ps end h. blanks_before n bytes ts ps end h;
  bare = run_stops is_blank bytes;
  within = shorter (prefix_len is_blank bytes) bytes;
}

pub one_more : (n : ℕ) (bytes rest : List ℕ) (out : List Token) (places : List ℕ) (q : Token × ℕ) (at : ℕ) → Halfway n bytes rest out places → first rest ≡ Some q
    → at + length rest ≡ n → Halfway n bytes (without_blanks (drop q.1 rest)) (out ++ q.0 ∷ []) (places ++ at ∷ [])
one_more n bytes rest out places q at h e place = record {
  goes_on = λ ts ps end c.
      subst (λ z. Placed n bytes z ((places ++ at ∷ []) ++ ps) end) (sym (append_assoc out (q.0 ∷ []) ts))
      (subst (λ z. Placed n bytes (out ++ q.0 ∷ ts) z end) (sym (append_assoc places (at ∷ []) ps))
      (h.goes_on (q.0 ∷ ts) (at ∷ ps) end ((leads rest q e).placed n at ts ps end place (blanks_before n (drop q.1 rest) ts ps end c))));
  bare = run_stops is_blank (drop q.1 rest);
  within =
      let a = shorter (prefix_len is_blank (drop q.1 rest)) (drop q.1 rest) in
      let b = shorter q.1 rest in
      let c = h.within in
      omega (arith, a, b, c);
}

so_far : (n : ℕ) (bytes rest : List ℕ) (out : List Token) (places : List ℕ) → Halfway n bytes rest out places → Placed n bytes out places rest
so_far n bytes rest out places h =
    subst (λ z. Placed n bytes z places rest) (append-nil out)
    (subst (λ z. Placed n bytes (out ++ []) z rest) (append-nil places) (h.goes_on [] [] rest (here rest)))

no_token : (rest : List ℕ) → begins is_blank rest ≡ false → first rest ≡ None → NoToken rest
no_token [] bare none = ended
no_token (b ∷ bs) bare none = stray b bs bare (λ t h. nothing_begins (b ∷ bs) t none h)

not_empty : (rest : List ℕ) → 0 < length rest → false ≡ is_empty rest
not_empty [] some = absurd (omega (arith, some))
not_empty (b ∷ bs) some = refl

-- the tokens are those at the front, where none begins at the rest
module _ (before : ℕ) (bytes rest : List ℕ) (front : Front) (h : Halfway (before + length bytes) bytes rest front.tokens.items front.places.items) where
  pub strays : 0 < length rest → first rest ≡ None → front.end + length rest ≡ before + length bytes → front.is_whole ≡ false → IsFront before bytes front
  strays some none place whole = record {
    rest = rest;
    placed = so_far (before + length bytes) bytes rest front.tokens.items front.places.items h;
    place = place;
    stops = no_token rest h.bare none;
    whole = whole ∙ not_empty rest some;
  }

  pub at_end : length rest ≤ 0 → front.end ≡ before + length bytes → front.is_whole ≡ true → IsFront before bytes front
  at_end none place whole =
      let empty : rest ≡ [] = nothing rest none in
      record {
        rest = [];
        placed = subst (Placed (before + length bytes) bytes front.tokens.items front.places.items) empty
            (so_far (before + length bytes) bytes rest front.tokens.items front.places.items h);
        place = omega (arith, place);
        stops = ended;
        whole = whole;
      }
    where
      nothing : (rest : List ℕ) → length rest ≤ 0 → rest ≡ []
      nothing [] e = refl
      nothing (b ∷ bs) e = absurd (omega (arith, e))
