-- A text of a valid unit, within the limits, is read as that unit.
use Rattle.std.proofs.Common.{◌≡◌, ℕ, true, false, List, [], ◌∷◌, ◌++◌, Result, Ok, Err, ap, sym, ◌∙◌, subst, arith, append-nil, append_assoc}
use Rattle.std.proofs.lemmas.Bool.{and_parts, true≢false}
use Rattle.cf_base.specs.declared.limit.Limit.{Limit}
use Rattle.cc_whole_tokens.specs.declared.token.Token.{Token}
use Rattle.cc_whole_tokens.specs.Cut.{Cut}
use Rattle.cc_whole_cut.proofs.Cuts.{one_cut}
use Rattle.cc_whole.specs.declared.unit.CUnit.{CUnit}
use Rattle.cc_whole.specs.Plain.{items_of}
use Rattle.cc_whole.specs.Fault.{Checks, broken}
use Rattle.cc_whole.specs.Spellable.{spellable_items, spellable_version}
use Rattle.cc_whole.specs.SpellsItems.{SpellsItems}
use Rattle.cc_whole.specs.Text.{FirstLine, Text}
use Rattle.cc_whole.specs.Valid.{first_fault}
use Rattle.cc_whole.specs.ValidUnit.{keeps, valid_unit}
use Rattle.cc_whole_refused.specs.Fronts.{Fronts}
use Rattle.cc_whole_refused.specs.NotC.{GoesOn, Stops, NotC}
use Rattle.cc_whole_refused.specs.NotC as refused
use Rattle.cc_whole_read_items.proofs.WholeLaws.{one_list}
use Rattle.cc_whole_front.specs.Front.{ended, stray}
use Rattle.cc_whole_front.proofs.Only.{cut_fronts, begun, only, Following, follow, none_behind}
use Rattle.cc_whole_first_line.specs.FirstLine.{first_line}
use Rattle.cc_whole_first_line.proofs.FirstLines.{first_line_read}
use Rattle.cc_whole_nesting.specs.Nesting.{passes}
use Rattle.cc_whole_read.specs.declared.error.ReadErr.{ReadErr}
use Rattle.cc_whole_read.specs.declared.error.ReadErr.TheVariants as error
use Rattle.cc_whole_read.specs.Read.{HasTokens, Within, IsNotC, no_line, behind_line, Passes, bytes, nesting, IsRead, IsUnit}

pub line_read : (text : List ℕ) (version : ℕ) (line body : List ℕ) → FirstLine version line → text ≡ line ++ body → first_line text ≡ Ok (version, body)
line_read text version line body first parts = ap first_line parts ∙ first_line_read version line body first

abbrev pub Line : Type 0
Line = Result (ℕ × List ℕ) (List ℕ)

pub same_line : (v w : ℕ) (bs cs : List ℕ) → ◌≡◌ {A = Line} (Ok (v, bs)) (Ok (w, cs)) → (v ≡ w) × (bs ≡ cs)
same_line v w bs cs e = let same : (v, bs) ≡ (w, cs) = cc in (ap (λ (p : ℕ × List ℕ). p.0) same, ap (λ (p : ℕ × List ℕ). p.1) same)

pub no_such_line : (v : ℕ) (bs left : List ℕ) → ◌≡◌ {A = Line} (Ok (v, bs)) (Err left) → ⊥
no_such_line v bs left e = absurd (cc)

same_unit : (u v : CUnit) → u.version ≡ v.version → u.items ≡ v.items → u ≡ v
same_unit u v e f = ap (λ n. record { version = n; items = u.items }) e ∙ ap (λ l. record { version = v.version; items = l }) f

pub one_unit : (text : List ℕ) (u v : CUnit) → Text text u → Text text v → u ≡ v
one_unit text u v s t =
    let lines = same_line u.version v.version s.rest t.rest (sym (line_read text u.version s.line s.rest s.first s.parts) ∙ line_read text v.version t.line t.rest t.first t.parts) in
    let tokens : s.tokens ≡ t.tokens = one_cut s.cut t.tokens (subst (λ r. Cut r t.tokens) (sym lines.1) t.cut) in
    same_unit u v lines.0 (one_list s.tokens u.items v.items s.spelled (subst (SpellsItems v.items) (sym tokens) t.spelled))

module _ (text : List ℕ) (unit : CUnit) (is : Text text unit) where
  line : first_line text ≡ Ok (unit.version, is.rest)
  line = line_read text unit.version is.line is.rest is.first is.parts

  -- behind some tokens of the text stand others of the unit's
  behind : (version : ℕ) (front body : List ℕ) (tokens : List Token) (rest : List ℕ) → FirstLine version front → text ≡ front ++ body → Fronts body tokens rest
      → Following is.tokens tokens rest []
  behind version front body tokens rest first parts fronts =
      let same = same_line version unit.version body is.rest (sym (line_read text version front body first parts) ∙ line) in
      follow fronts is.tokens [] (subst (λ b. Fronts b is.tokens []) (sym same.1) (cut_fronts is.cut)) ended

  goes_on : (tokens more : List Token) (t : Token) → is.tokens ≡ tokens ++ (t ∷ more) → GoesOn (tokens ++ t ∷ [])
  goes_on tokens more t e =
      record { items = unit.items; more = more; spelled = subst (SpellsItems unit.items) (e ∙ sym (append_assoc tokens (t ∷ []) more)) is.spelled }

  stops_not : (tokens : List Token) {rest : List ℕ} → Stops tokens rest → Following is.tokens tokens rest [] → ⊥
  stops_not tokens (refused.Stops.token bs t begins never) f =
      let b = begun begins in
      let l = only f.fronts ended (t, b.len) b.is in
      never (goes_on tokens l.more t (f.parts ∙ ap (λ m. tokens ++ m) l.parts))
  stops_not tokens (refused.Stops.stray b bs bare never) f =
      let k = none_behind f.fronts (stray b bs bare never) in
      let empty : b ∷ bs ≡ [] = k.1 in
      absurd (cc)
  stops_not tokens (refused.Stops.ended never) f =
      let k = none_behind f.fronts ended in
      never unit.items (subst (SpellsItems unit.items) (f.parts ∙ (ap (λ m. tokens ++ m) k.0 ∙ append-nil tokens)) is.spelled)

  pub is_c : (at : ℕ) → IsNotC text at → ⊥
  is_c at (no_line n) = no_such_line unit.version is.rest n.rest (sym line ∙ n.stops)
  is_c at (behind_line w n) = stops_not n.tokens n.stops (behind n.version n.line n.body n.tokens n.rest n.first n.parts n.fronts)

  -- the tokens of the text are the unit's
  same_tokens : (tokens : List Token) → HasTokens text tokens → is.tokens ≡ tokens
  same_tokens tokens h =
      let f = behind h.version h.line h.body tokens h.rest h.first h.parts h.fronts in
      f.parts ∙ (ap (λ m. tokens ++ m) (none_behind f.fronts h.stops).0 ∙ append-nil tokens)

  small : (l : Limit) → Within text → Passes text l → ⊥
  small l w (bytes long) = let s = w.small in omega (arith, long, s)
  small l w (nesting s n) =
      let flat = w.flat in
      let same : flat.tokens ≡ n.tokens = sym (same_tokens flat.tokens flat.has) ∙ same_tokens n.tokens n.has in
      true≢false (sym n.nesting ∙ (ap passes (sym same) ∙ flat.nesting))

  kept : (c : Checks) (rule number : ℕ) → keeps c ≡ true → c ≡ broken rule number → ⊥
  kept c rule number k e = let lost : false ≡ true = ap keeps (sym e) ∙ k in true≢false (sym lost)

  no_fault : valid_unit unit ≡ true → keeps (first_fault (items_of unit.items)) ≡ true
  no_fault valid =
      (and_parts (spellable_items (items_of unit.items)) (keeps (first_fault (items_of unit.items)))
      (and_parts (spellable_version unit.version) _ valid).1).1

  pub read_back : (answer : Result CUnit ReadErr) → valid_unit unit ≡ true → Within text → IsRead text answer → IsUnit unit answer
  read_back (Ok found) valid w r = one_unit text found unit r.is is
  read_back (Err (error.NotC at)) valid w r = absurd (is_c at r)
  read_back (Err (error.Invalid rule at)) valid w r =
      let same = one_unit text unit r.fault.unit is r.fault.is in
      absurd (kept (first_fault (items_of unit.items)) rule r.fault.number (no_fault valid) (ap (λ (u : CUnit). first_fault (items_of u.items)) same ∙ r.fault.fault))
  read_back (Err (error.Limit l)) valid w r = absurd (small l w r)
  read_back (Err error.Memory) valid w r = tt
