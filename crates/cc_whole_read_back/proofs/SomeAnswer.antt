-- Each text has an answer.
use Rattle.std.proofs.Common.{◌≡◌, ℕ, suc, ◌+◌, ◌-◌, ◌<◌, ◌≤◌, Bool, true, false, List, [], ◌∷◌, ◌++◌, length, Option, Some, None, Result, Ok, Err, refl, ap, sym, ◌∙◌, subst, arith, append-nil, length-append}
use Rattle.std.specs.Prelude.{nat_lt, ◌&&◌, get_or}
use Rattle.std.proofs.lemmas.Bool.{and_from}
use Rattle.std.proofs.lemmas.Bool.Decides.{nat_tests}
use Rattle.cf_base.specs.declared.limit.Bound.TheVariants as bound
use Rattle.cc_whole_tokens.specs.declared.token.Token.{Token}
use Rattle.cc_whole.specs.declared.unit.CItem.{CItem}
use Rattle.cc_whole.specs.declared.unit.CUnit.{CUnit}
use Rattle.cc_whole.specs.Plain.{items_of}
use Rattle.cc_whole.specs.Fault.{Fault, Checks, broken}
use Rattle.cc_whole.specs.Spellable.{spellable_items, spellable_version}
use Rattle.cc_whole.specs.SpellsItems.{SpellsItems}
use Rattle.cc_whole.specs.Text.{Text}
use Rattle.cc_whole.specs.Valid.{first_fault}
use Rattle.cc_whole.specs.ValidUnit.{keeps, valid_unit}
use Rattle.cc_whole_laws.specs.Landmark.{landmarks_in, items_marks}
use Rattle.cc_whole_laws.proofs.ItemMarks.{landmarks-of-texts}
use Rattle.cc_whole_refused.specs.Fronts.{Begins as TokenBegins, Fronts}
use Rattle.cc_whole_refused.specs.NotC.{GoesOn, Stops, NotC}
use Rattle.cc_whole_refused.specs.NotC as refused
use Rattle.cc_whole_refused.specs.Invalid.{Invalid}
use Rattle.cc_whole_reading.specs.declared.stop.Stop.{Stop}
use Rattle.cc_whole_reading.specs.declared.stop.Stop.TheVariants as stop
use Rattle.cc_whole_reading.proofs.ConstantLaws.{all_kept}
use Rattle.cc_whole_read_items.specs.Answers.{StopsAt, NotCAt}
use Rattle.cc_whole_read_items.specs.Answers as items
use Rattle.cc_whole_read_items.specs.ReadItems.{whole}
use Rattle.cc_whole_read_items.proofs.WholeLaws.{Told, told}
use Rattle.cc_whole_wide.proofs.UnitPlaces.{fault_inside}
use Rattle.cc_whole_front.specs.Front.{NoToken, ended, stray}
use Rattle.cc_whole_front.proofs.Laws.{placed_fronts, fronts_cut, place_of}
use Rattle.cc_whole_first_line.specs.FirstLine.{first_line, Begins}
use Rattle.cc_whole_first_line.proofs.FirstLines.{first_line_is}
use Rattle.cc_whole_first_line.proofs.Shorter.{no_longer}
use Rattle.cc_whole_nesting.specs.Nesting.{passes, nesting_limit}
use Rattle.cc_whole_read.specs.declared.error.ReadErr.{ReadErr}
use Rattle.cc_whole_read.specs.declared.error.ReadErr.TheVariants as error
use Rattle.cc_whole_read.specs.Landmarks.{Nth, landmark_from}
use Rattle.cc_whole_read.specs.Read.{text_limit, HasTokens, Within, IsNotC, no_line, behind_line, bytes, nesting, IsRead}
use Rattle.cc_whole_read.proofs.Answering.{version_good, line_shorter}
use Rattle.cc_whole_read.proofs.Numbered.{found, too_few}
use Rattle.cc_whole_read.proofs.SpelledTrees.{good_fronts, spelled_items}
use Rattle.cc_whole_read_back.specs.Some.{HasAnswer}
use Rattle.cc_whole_read_back.proofs.SomeTokens.{Tokens, all_tokens}

module _ (text : List ℕ) (small : length text ≤ text_limit) (version : ℕ) (body : List ℕ) (line : Begins text version body) (t : Tokens (length text) body) where
  fronts : Fronts body t.tokens t.rest
  fronts = placed_fronts (length text) t.placed

  has_tokens : HasTokens text t.tokens
  has_tokens = record { version = version; line = line.line; body = body; rest = t.rest; first = line.first; parts = line.parts; fronts = fronts; stops = t.stops }

  module _ (flat : passes t.tokens ≡ false) where
    within : Within text
    within = record { small = small; flat = record { tokens = t.tokens; has = has_tokens; nesting = flat } }

    -- it stops being C behind these tokens
    not_c : (xs : List Token) (rest : List ℕ) (at : ℕ) → Fronts body xs rest → GoesOn xs → Stops xs rest → at + length rest ≡ length text → HasAnswer text
    not_c xs rest at f goes stops e = record {
      answer = Err (error.NotC at);
      is = behind_line within (record {
        version = version;
        line = line.line;
        body = body;
        tokens = xs;
        rest = rest;
        first = line.first;
        parts = line.parts;
        fronts = f;
        goes = goes;
        stops = stops;
        place = e;
      });
      told = refl;
    }

    -- at the end of all tokens
    at_end : (length text - length t.rest) + length t.rest ≡ length text
    at_end = let s = t.short in let l = line_shorter text version body line in omega (arith, s, l)

    ends_by : {rest : List ℕ} → NoToken rest → rest ≡ t.rest → GoesOn t.tokens → ((is : List CItem) → SpellsItems is t.tokens → ⊥) → Stops t.tokens rest
    ends_by ended e goes never = refused.Stops.ended never
    ends_by (stray b bs bare none) e goes never = refused.Stops.stray b bs bare none

    stopped : (xs ts : List Token) → t.tokens ≡ xs ++ ts → GoesOn xs → StopsAt xs ts → HasAnswer text
    stopped xs _ parts goes (items.StopsAt.next u ts never) =
        let p = place_of (length text) t.placed xs u ts parts in
        not_c xs p.rest (get_or t.places (length xs) 0) p.fronts goes (refused.Stops.token p.rest u p.begins never) p.place
    stopped xs _ parts goes (items.StopsAt.ended never) =
        let same : t.tokens ≡ xs = parts ∙ append-nil xs in
        let here : GoesOn t.tokens = subst GoesOn (sym same) goes in
        not_c t.tokens t.rest (length text - length t.rest) fronts here (ends_by t.stops refl here (λ is d. never is (subst (SpellsItems is) same d))) at_end

    -- ---- a unit

    module _ (is : List CItem) (d : SpellsItems is t.tokens) (whole_text : t.rest ≡ []) where
      unit : CUnit
      unit = record { version = version; items = is }

      has_text : Text text unit
      unfolding unit
      has_text = record { line = line.line; rest = body; tokens = t.tokens; first = line.first; cut = fronts_cut fronts whole_text; spelled = d; parts = line.parts }

      spellable : spellable_items (items_of is) ≡ true
      spellable = spelled_items d (good_fronts fronts)

      kept : (c : Checks) → first_fault (items_of is) ≡ c → keeps c ≡ true → HasAnswer text
      unfolding unit
      kept c e k = record {
        answer = Ok unit;
        is = record {
          within = within;
          is = has_text;
          valid = and_from (spellable_version version) _ (version_good version line.line line.first)
              (and_from (spellable_items (items_of is)) (keeps (first_fault (items_of is))) spellable (ap keeps e ∙ k));
        };
        told = refl;
      }

      at_landmark : (f : Fault) → first_fault (items_of is) ≡ Err f → (index : ℕ) → Nth t.tokens f.place index → HasAnswer text
      unfolding unit
      at_landmark f e index n =
          let p = place_of (length text) t.placed n.before n.token n.after n.parts in
          record {
            answer = Err (error.Invalid f.rule (get_or t.places (length n.before) 0));
            is = record {
              within = within;
              fault = record {
                unit = unit;
                number = f.place;
                line = line.line;
                body = body;
                tokens = n.before;
                next = n.token;
                rest = p.rest;
                is = has_text;
                fault = e;
                first = line.first;
                parts = line.parts;
                fronts = p.fronts;
                begins = p.begins;
                is_landmark = n.is_landmark;
                before = n.count;
                place = p.place;
              };
            };
            told = refl;
          }

      -- a fault stands at a landmark
      placed : (f : Fault) → first_fault (items_of is) ≡ Err f → (o : Option ℕ) → landmark_from t.tokens 0 f.place ≡ o → HasAnswer text
      placed f e None none =
          let few = too_few t.tokens 0 f.place none in
          let inside = fault_inside (items_of is) f.rule f.place spellable e in
          let many = landmarks-of-texts is t.tokens d in
          absurd (omega (arith, few, inside, many))
      placed f e (Some index) there = at_landmark f e index (found t.tokens f.place index there)

      by_fault : (c : Checks) → first_fault (items_of is) ≡ c → HasAnswer text
      by_fault (Ok u) e = kept (Ok u) e refl
      by_fault (Err f) e = placed f e (landmark_from t.tokens 0 f.place) refl

    spelled : {rest : List ℕ} → NoToken rest → rest ≡ t.rest → (is : List CItem) → SpellsItems is t.tokens → HasAnswer text
    spelled ended e is d = by_fault is d (sym e) (first_fault (items_of is)) refl
    spelled (stray b bs bare none) e is d =
        let goes : GoesOn t.tokens = record { items = is; more = []; spelled = subst (SpellsItems is) (sym (append-nil t.tokens)) d } in
        not_c t.tokens t.rest (length text - length t.rest) fronts goes (subst (Stops t.tokens) e (refused.Stops.stray b bs bare none)) at_end

    by_result : (r : Result (List CItem × List Token) Stop) → Told t.tokens r → HasAnswer text
    by_result (Ok q) d = spelled t.stops refl q.0 d
    by_result (Err (stop.NotC m)) n = stopped n.before n.rest n.parts n.goes n.stops
    by_result (Err (stop.Unfit m)) n = absurd n
    by_result (Err stop.Memory) n = absurd n

  by_nesting : (deep : Bool) → passes t.tokens ≡ deep → HasAnswer text
  by_nesting true deep = record {
    answer = Err (error.Limit (record { bound = bound.Nesting; most = nesting_limit }));
    is = nesting small (record { tokens = t.tokens; has = has_tokens; nesting = deep });
    told = refl;
  }
  by_nesting false flat = by_result flat (whole all_kept (length t.tokens) t.tokens) (told t.tokens)

by_line : (text : List ℕ) → length text ≤ text_limit → (r : Result (ℕ × List ℕ) (List ℕ)) → first_line text ≡ r → HasAnswer text
by_line text small (Err rest) e =
    let l = no_longer text rest e in
    record {
      answer = Err (error.NotC (length text - length rest));
      is = no_line (record { small = small; rest = rest; stops = e; place = omega (arith, l) });
      told = refl;
    }
by_line text small (Ok q) e =
    let line = first_line_is text q.0 q.1 e in
    let t = all_tokens (length q.1) (length text) q.1 (omega arith) (line_shorter text q.0 q.1 line) in
    by_nesting text small q.0 q.1 line t (passes t.tokens) refl

pub some_answer : (text : List ℕ) → HasAnswer text
some_answer text = by_size (nat_lt text_limit (length text)) refl
  where
    by_size : (b : Bool) → nat_lt text_limit (length text) ≡ b → HasAnswer text
    by_size true e =
        let long : text_limit < length text = grind (arith, nat_tests) in
        record { answer = Err (error.Limit (record { bound = bound.Text; most = text_limit })); is = bytes long; told = refl }
    by_size false e =
        let small : length text ≤ text_limit = grind (arith, nat_tests) in
        by_line text small (first_line text) refl
