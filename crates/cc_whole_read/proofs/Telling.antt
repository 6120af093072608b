-- What the parts of reading tell of a text.
use Rattle.std.proofs.Common.{◌≡◌, ℕ, ◌+◌, ◌<◌, ◌≤◌, true, false, List, [], ◌∷◌, ◌++◌, length, Result, Ok, Err, refl, ap, sym, ◌∙◌, subst, arith, append-nil, length-append}
use Rattle.std.specs.Prelude.{if◌then◌else◌, nat_lt, get_or}
use Rattle.std.proofs.lemmas.Bool.{true≢false}
use Rattle.std.proofs.lemmas.Bool.Decides.{nat_tests}
use Rattle.cf_base.specs.declared.limit.Bound.TheVariants as bound
use Rattle.cc_whole_tokens.specs.declared.token.Token.{Token}
use Rattle.cc_whole.specs.declared.unit.CItem.{CItem}
use Rattle.cc_whole.specs.declared.unit.CUnit.{CUnit}
use Rattle.cc_whole.specs.Text.{FirstLine, Text}
use Rattle.cc_whole.specs.SpellsItems.{SpellsItems}
use Rattle.cc_whole_refused.specs.Fronts.{Fronts}
use Rattle.cc_whole_refused.specs.NotC.{GoesOn, Stops, NotC}
use Rattle.cc_whole_refused.specs.NotC as refused
use Rattle.cc_whole_refused.specs.Invalid.{Invalid}
use Rattle.cc_whole_read_items.specs.Answers.{StopsAt, NotCAt, AreItems}
use Rattle.cc_whole_read_items.specs.Answers as items
use Rattle.cc_whole_front.specs.declared.front.Front.{Front}
use Rattle.cc_whole_front.specs.Front.{NoToken, ended, stray, is_empty, IsFront}
use Rattle.cc_whole_front.proofs.Laws.{placed_fronts, fronts_cut, place_of, as_many}
use Rattle.cc_whole_first_line.specs.FirstLine.{Begins}
use Rattle.cc_whole_nesting.specs.Nesting.{passes, nesting_limit}
use Rattle.cc_whole_read.specs.declared.error.ReadErr.{ReadErr}
use Rattle.cc_whole_read.specs.declared.error.ReadErr.TheVariants as error
use Rattle.cc_whole_read.specs.Read.{text_limit, HasTokens, Within, behind_line, Passes, nesting, IsRead}
use Rattle.cc_whole_read.specs.Behind.{place_in, Breaks, HasUnit, TokensStop, token, stray as stray_behind, ReadsTokens}

-- the token of an index that there is
place_there : (places : List ℕ) (end index : ℕ) → index < length places → place_in places end index ≡ get_or places index 0
place_there places end index h =
    let test : nat_lt index (length places) ≡ true = grind (arith, nat_tests) in
    ap (λ b. if b then get_or places index 0 else end) test

place_behind : (places : List ℕ) (end index : ℕ) → length places ≤ index → place_in places end index ≡ end
place_behind places end index h =
    let test : nat_lt index (length places) ≡ false = grind (arith, nat_tests) in
    ap (λ b. if b then get_or places index 0 else end) test

module _ (text body : List ℕ) (version before : ℕ) (line : Begins text version body) (total : before + length body ≡ length text) (small : length text ≤ text_limit)
    (front : Front) (is : IsFront before body front) where
  abbrev tokens : List Token
  tokens = front.tokens.items

  abbrev places : List ℕ
  places = front.places.items

  fronts : Fronts body tokens is.rest
  fronts = placed_fronts (before + length body) is.placed

  has_tokens : HasTokens text tokens
  has_tokens = record { version = version; line = line.line; body = body; rest = is.rest; first = line.first; parts = line.parts; fronts = fronts; stops = is.stops }

  pub too_deep : passes tokens ≡ true → Passes text (record { bound = bound.Nesting; most = nesting_limit })
  too_deep deep = nesting small (record { tokens = tokens; has = has_tokens; nesting = deep })

  within : passes tokens ≡ false → Within text
  within flat = record { small = small; flat = record { tokens = tokens; has = has_tokens; nesting = flat } }

  count : length places ≡ length tokens
  count = as_many (before + length body) is.placed

  -- at a token
  stops_at : (xs : List Token) (t : Token) (ts : List Token) → tokens ≡ xs ++ (t ∷ ts) → GoesOn xs → (GoesOn (xs ++ t ∷ []) → ⊥) → (index : ℕ) → index ≡ length xs
      → NotC text (place_in places front.end index)
  stops_at xs t ts parts goes never index e =
      let p = place_of (before + length body) is.placed xs t ts parts in
      let l = ap length parts in
      let there : index < length places = let c = count in omega (arith, l, c, e, length-append xs (t ∷ ts)) in
      let at : place_in places front.end index ≡ get_or places (length xs) 0 = place_there places front.end index there ∙ ap (λ i. get_or places i 0) e in
      record {
        version = version;
        line = line.line;
        body = body;
        tokens = xs;
        rest = p.rest;
        first = line.first;
        parts = line.parts;
        fronts = p.fronts;
        goes = goes;
        stops = refused.Stops.token p.rest t p.begins never;
        place = ap (λ k. k + length p.rest) at ∙ (p.place ∙ total);
      }

  -- behind all tokens
  stops_behind : {rest : List ℕ} → NoToken rest → rest ≡ is.rest → ((items : List CItem) → SpellsItems items tokens → rest ≡ [] → ⊥) → GoesOn tokens → NotC text front.end
  stops_behind ended e never goes = record {
    version = version;
    line = line.line;
    body = body;
    tokens = tokens;
    rest = [];
    first = line.first;
    parts = line.parts;
    fronts = subst (Fronts body tokens) (sym e) fronts;
    goes = goes;
    stops = refused.Stops.ended (λ items d. never items d refl);
    place = let l = ap length e in let p = is.place in omega (arith, l, p, total);
  }
  stops_behind (stray b bs bare never_begins) e never goes = record {
    version = version;
    line = line.line;
    body = body;
    tokens = tokens;
    rest = b ∷ bs;
    first = line.first;
    parts = line.parts;
    fronts = subst (Fronts body tokens) (sym e) fronts;
    goes = goes;
    stops = refused.Stops.stray b bs bare never_begins;
    place = let l = ap length e in let p = is.place in omega (arith, l, p, total);
  }

  not_c_by : (xs ts : List Token) (index : ℕ) → tokens ≡ xs ++ ts → index ≡ length xs → GoesOn xs → StopsAt xs ts → NotC text (place_in places front.end index)
  not_c_by xs _ index parts e goes (items.StopsAt.next t ts never) = stops_at xs t ts parts goes never index e
  not_c_by xs _ index parts e goes (items.StopsAt.ended never) =
      let same : tokens ≡ xs = parts ∙ append-nil xs in
      let l = ap length same in
      let behind : length places ≤ index = let c = count in omega (arith, l, c, e) in
      subst (NotC text) (sym (place_behind places front.end index behind))
      (stops_behind is.stops refl (λ is d n. never is (subst (SpellsItems is) same d)) (subst GoesOn (sym same) goes))

  goes_whole : AreItems tokens → GoesOn tokens
  goes_whole a = record { items = a.items; more = []; spelled = subst (SpellsItems a.items) (sym (append-nil tokens)) a.spelled }

  -- bytes are left where the tokens are not whole
  partial : front.is_whole ≡ false → is.rest ≡ [] → ⊥
  partial e none = true≢false (sym (is.whole ∙ ap is_empty none) ∙ e)

  not_c : (at : ℕ) → TokensStop front at → NotC text at
  not_c at (token index n e) = subst (NotC text) (sym e) (not_c_by n.before n.rest index n.parts n.place n.goes n.stops)
  not_c at (stray_behind w a e) = subst (NotC text) (sym e) (stops_behind is.stops refl (λ items d none. partial w none) (goes_whole a))

  whole : (rest : List ℕ) → is_empty rest ≡ true → rest ≡ []
  whole [] e = refl
  whole (b ∷ bs) e = absurd (true≢false (sym e))

  has_text : (unit : CUnit) → HasUnit version front unit → Text text unit
  has_text unit h = record {
    line = line.line;
    rest = body;
    tokens = tokens;
    first = subst (λ v. FirstLine v line.line) (sym h.same_version) line.first;
    cut = fronts_cut fronts (whole is.rest (sym is.whole ∙ h.whole));
    spelled = h.spelled;
    parts = line.parts;
  }

  invalid : (rule at : ℕ) (unit : CUnit) → HasUnit version front unit → Breaks front unit rule at → Invalid text rule at
  invalid rule at unit h b =
      let n = b.nth in
      let p = place_of (before + length body) is.placed n.before n.token n.after n.parts in
      let l = ap length n.parts in
      let there : b.index < length places = let c = count in let q = n.place in omega (arith, l, c, q, length-append n.before (n.token ∷ n.after)) in
      let where_it_is : at ≡ get_or places (length n.before) 0 = b.place ∙ (place_there places front.end b.index there ∙ ap (λ i. get_or places i 0) n.place) in
      record {
        unit = unit;
        number = b.number;
        line = line.line;
        body = body;
        tokens = n.before;
        next = n.token;
        rest = p.rest;
        is = has_text unit h;
        fault = b.fault;
        first = subst (λ v. FirstLine v line.line) (sym h.same_version) line.first;
        parts = line.parts;
        fronts = p.fronts;
        begins = p.begins;
        is_landmark = n.is_landmark;
        before = n.count;
        place = ap (λ k. k + length p.rest) where_it_is ∙ (p.place ∙ total);
      }

  pub tokens_tell : (r : Result CUnit ReadErr) → passes tokens ≡ false → ReadsTokens version front r → IsRead text r
  tokens_tell (Ok unit) flat h = record { within = within flat; is = has_text unit h.has; valid = h.valid }
  tokens_tell (Err (error.NotC at)) flat h = behind_line (within flat) (not_c at h)
  tokens_tell (Err (error.Invalid rule at)) flat h = record { within = within flat; fault = invalid rule at h.unit h.has h.breaks }
  tokens_tell (Err (error.Limit l)) flat h = absurd h
  tokens_tell (Err error.Memory) flat h = tt
