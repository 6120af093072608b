-- The token at the front, strings among them.
use Rattle.std.proofs.Common.{◌≡◌, ℕ, ◌+◌, ◌<◌, ◌≤◌, Bool, true, false, ◌==◌, List, [], ◌∷◌, ◌++◌, length, take, drop, refl, ap, sym, ◌∙◌, subst, arith, Option, Some, None, IfSome, Result, Ok, Err, IfOk, append_assoc}
use Rattle.std.proofs.lemmas.Bool.{false≢true, eqb-true}
use Rattle.std.proofs.lemmas.List.{take_at, drop_at, take-append-drop, length-append}
use Rattle.cc_whole_tokens.specs.declared.token.Token.{Token}
use Rattle.cc_whole_tokens.specs.declared.token.Token.TheVariants as token
use Rattle.cc_whole_tokens.specs.Token.{begins, spelling, is_token, ends}
use Rattle.cc_whole_tokens.specs.Cut.{Cut, Spelled}
use Rattle.cc_whole_tokens.specs.Cut as cut
use Rattle.cc_whole_cut.specs.declared.front.Shape.{Shape}
use Rattle.cc_whole_cut.specs.Front.{front, token_of}
use Rattle.cc_whole_cut.specs.Inside.{inside}
use Rattle.cc_whole_cut.specs.First.{first, string, shaped}
use Rattle.cc_whole_cut.proofs.Fronts.{complete, of_shape, shape_of}
use Rattle.cc_whole_cut.proofs.Found.{found}
use Rattle.cc_whole_cut.proofs.Strings.{read_whole, read_is}

quote_none : (bs : List ℕ) → front (34 ∷ bs) ≡ None
unfolding front
quote_none bs = refl

quoted : (bs : List ℕ) → first (34 ∷ bs) ≡ string (inside (length bs) [] 0 bs)
unfolding first
quoted bs = refl

plain : (bs : List ℕ) → begins (λ b. b == 34) bs ≡ false → first bs ≡ shaped (front bs) bs
unfolding first
plain bs h = rw h refl

no_quote : (bs : List ℕ) (s : Shape × ℕ) (t : Bool) → begins (λ b. b == 34) bs ≡ t → front bs ≡ Some s → t ≡ false
no_quote bs s false h e = refl
no_quote [] s true h e = absurd (false≢true h)
no_quote (b ∷ bs) s true h e =
    let is : b ≡ 34 = eqb-true b 34 h in
    let k : None ≡ Some s = sym (quote_none bs) ∙ (ap (λ x. front (x ∷ bs)) (sym is) ∙ e) in
    absurd (cc)

-- a token that stands at the front is found there
pub first_token : (t : Token) (rest : List ℕ) → is_token t ≡ true → ends t rest ≡ true → first (spelling t ++ rest) ≡ Some (t, length (spelling t))
first_token t rest is e =
    let bs = spelling t ++ rest in
    let at = complete t rest is e in
    let taken = take_at (spelling t) rest (length (spelling t)) refl in
    plain bs (no_quote bs (shape_of t, length (spelling t)) (begins (λ b. b == 34) bs) refl at)
    ∙ (ap (λ o. shaped o bs) at ∙ (ap (λ v. Some (token_of (shape_of t) v, length (spelling t))) taken ∙ ap (λ v. Some (v, length (spelling t))) (of_shape t is)))

pub first_string : (xs bytes rest : List ℕ) → Spelled xs bytes → first (34 ∷ (xs ++ (34 ∷ rest))) ≡ Some (token.Text bytes, length xs + 2)
first_string xs bytes rest h =
    let fits : length xs < length (xs ++ (34 ∷ rest)) = let l = length-append xs (34 ∷ rest) in omega (arith, l) in
    let len : (0 + length xs) + 2 ≡ length xs + 2 = omega arith in
    quoted (xs ++ (34 ∷ rest)) ∙ (ap string (read_whole h (length (xs ++ (34 ∷ rest))) fits [] 0 rest) ∙ ap (λ n. Some (token.Text bytes, n)) len)

-- what is found at the front begins a cut
pub record IsFirst (bs : List ℕ) (q : Token × ℕ) : Type 0 where
  pub some : 0 < q.1
  pub within : q.1 ≤ length bs
  pub cuts : (ts : List Token) → Cut (drop q.1 bs) ts → Cut bs (q.0 ∷ ts)

some_at : {X : Type 0} (P : X → Type 0) (x y : X) → P x → Some x ≡ Some y → P y
some_at P x y p e = let k : x ≡ y = cc in subst P k p

shaped_is : (bs : List ℕ) (q : Token × ℕ) (o : Option (Shape × ℕ)) → front bs ≡ o → shaped o bs ≡ Some q → IsFirst bs q
shaped_is bs q None f e = absurd (cc)
shaped_is bs q (Some s) f e =
    let is = found bs s f in
    let t = token_of s.0 (take s.1 bs) in
    let whole : spelling t ++ drop s.1 bs ≡ bs = ap (λ x. x ++ drop s.1 bs) is.spelled ∙ take-append-drop s.1 bs in
    some_at (IsFirst bs) (t, s.1) q (record {
      some = is.some;
      within = is.within;
      cuts = λ ts h. subst (λ z. Cut z (t ∷ ts)) whole (cut.Cut.token t (drop s.1 bs) ts is.is is.ends h);
    }) e

string_is : (bs : List ℕ) (q : Token × ℕ) (o : Option (List ℕ × ℕ)) → inside (length bs) [] 0 bs ≡ o → string o ≡ Some q → IsFirst (34 ∷ bs) q
string_is bs q None f e = absurd (cc)
string_is bs q (Some s) f e =
    let r = read_is (length bs) [] 0 bs s f in
    let l = ap length r.parts in
    let n = r.counted in
    let fits : s.1 + 2 ≤ length (34 ∷ bs) = omega (arith, l, n, length-append r.xs (34 ∷ r.rest)) in
    let len : length (34 ∷ (r.xs ++ (34 ∷ []))) ≡ s.1 + 2 = omega (arith, n, length-append r.xs (34 ∷ [])) in
    let whole : 34 ∷ bs ≡ (34 ∷ (r.xs ++ (34 ∷ []))) ++ r.rest = ap (λ z. 34 ∷ z) (r.parts ∙ sym (append_assoc r.xs (34 ∷ []) r.rest)) in
    let left : drop (s.1 + 2) (34 ∷ bs) ≡ r.rest = ap (drop (s.1 + 2)) whole ∙ drop_at (34 ∷ (r.xs ++ (34 ∷ []))) r.rest (s.1 + 2) len in
    some_at (IsFirst (34 ∷ bs)) (token.Text s.0, s.1 + 2) q (record {
      some = omega arith;
      within = fits;
      cuts = λ ts h.
          let c = cut.Cut.string r.xs r.bytes r.rest ts r.spelled (subst (λ z. Cut z ts) left h) in
          subst (λ z. Cut (34 ∷ bs) (token.Text z ∷ ts)) (sym r.gives) (subst (λ z. Cut (34 ∷ z) (token.Text r.bytes ∷ ts)) (sym r.parts) c);
    }) e

first_is_by : (bs : List ℕ) (q : Token × ℕ) (t : Bool) → begins (λ b. b == 34) bs ≡ t → first bs ≡ Some q → IsFirst bs q
first_is_by bs q false h e = shaped_is bs q (front bs) refl (sym (plain bs h) ∙ e)
first_is_by [] q true h e = absurd (false≢true h)
first_is_by (b ∷ bs) q true h e =
    let is : b ≡ 34 = eqb-true b 34 h in
    let k : first (34 ∷ bs) ≡ Some q = ap (λ x. first (x ∷ bs)) (sym is) ∙ e in
    subst (λ x. IsFirst (x ∷ bs) q) (sym is) (string_is bs q (inside (length bs) [] 0 bs) refl (sym (quoted bs) ∙ k))

pub first_is : (bs : List ℕ) (q : Token × ℕ) → first bs ≡ Some q → IsFirst bs q
first_is bs q e = first_is_by bs q (begins (λ b. b == 34) bs) refl e

pub some_of : {E : Type 0} (bs : List ℕ) (r : Result (Option (Token × ℕ)) E) → IfOk r (λ o. o ≡ first bs) → IfOk r (λ o. IfSome o (λ q. 0 < q.1))
some_of bs (Err d) e = tt
some_of bs (Ok None) e = tt
some_of bs (Ok (Some q)) e = (first_is bs q (sym e)).some

pub within_of : {E : Type 0} (bs : List ℕ) (r : Result (Option (Token × ℕ)) E) → IfOk r (λ o. o ≡ first bs) → IfOk r (λ o. IfSome o (λ q. q.1 ≤ length bs))
within_of bs (Err d) e = tt
within_of bs (Ok None) e = tt
within_of bs (Ok (Some q)) e = (first_is bs q (sym e)).within
