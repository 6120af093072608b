-- What others tell of a unit with a constant that does not fit.
use Rattle.std.proofs.Common.{◌≡◌, ℕ, ◌+◌, ◌<◌, Bool, true, false, List, [], ◌∷◌, ◌++◌, Option, Some, None, Ok, Err, refl, ap, sym, ◌∙◌, subst, arith, append-nil, append_assoc}
use Rattle.std.specs.Prelude.{if◌then◌else◌, ◌&&◌}
use Rattle.std.proofs.lemmas.Bool.{and_from, true≢false}
use Rattle.cc_whole_tokens.specs.declared.token.Token.{Token}
use Rattle.cc_whole_tokens.specs.declared.token.Token.TheVariants as token
use Rattle.cc_whole.specs.declared.unit.CItem.{CItem}
use Rattle.cc_whole.specs.Fault as definition
use Rattle.cc_whole.specs.Fault.{Checks, broken}
use Rattle.cc_whole.specs.Plain.{items_of}
use Rattle.cc_whole.specs.SpellsItems.{SpellsItems}
use Rattle.cc_whole.specs.Valid.{first_fault}
use Rattle.cc_whole_laws.specs.Landmark.{landmark, landmarks_in}
use Rattle.cc_whole_valid.specs.declared.stop.Fault.{Fault}
use Rattle.cc_whole_valid.specs.Walk.{fault_of}
use Rattle.cc_whole_fitting.specs.declared.before.Before.{Before}
use Rattle.cc_whole_fitting.specs.declared.before.Before.TheVariants as before
use Rattle.cc_whole_fitting.specs.Numbers.{behind, token_fits, fit_from, numbers_fit}
use Rattle.cc_whole_fitting.proofs.ItemRuns.{fits_as_items}
use Rattle.cc_whole_read_items.specs.Answers.{StopsAt, next, ended, NotCAt, AreItems, AreWide}
use Rattle.cc_whole_read_items.proofs.WholeLaws.{one_list}
use Rattle.cc_whole_wide.specs.Others.{later, wide_from, first_wide, others}
use Rattle.cc_whole_wide.specs.Place.{decoded, Tells, InPlace}
use Rattle.cc_whole_wide.proofs.InPlace.{in_place}
use Rattle.cc_whole_front.specs.declared.front.Front.{Front}
use Rattle.cc_whole_read.specs.declared.error.ReadErr.{ReadErr}
use Rattle.cc_whole_read.specs.declared.error.ReadErr.TheVariants as error
use Rattle.cc_whole_read.specs.Behind.{told_by, TellsAt, ReadsTokens}

-- ---- reading others

stops_not : (front rest tokens : List Token) → tokens ≡ front ++ rest → StopsAt front rest → (items : List CItem) → SpellsItems items tokens → ⊥
stops_not front _ tokens e (next t ts never) items d =
    never (record { items = items; more = ts; spelled = subst (SpellsItems items) (e ∙ sym (append_assoc front (t ∷ []) ts)) d })
stops_not front _ tokens e (ended never) items d = never items (subst (SpellsItems items) (e ∙ append-nil front) d)

-- tokens that spell items are C, and have no constant that does not fit where their numbers fit
pub are_c : (tokens : List Token) (at : ℕ) → AreItems tokens → NotCAt tokens at → ⊥
are_c tokens at a n = stops_not n.before n.rest tokens n.parts n.stops a.items a.spelled

pub are_fit : (tokens : List Token) → numbers_fit tokens ≡ true → AreWide tokens → ⊥
are_fit tokens fit a = true≢false (sym fit ∙ (fits_as_items a.items tokens a.spelled ∙ a.wide))

-- ---- the first number that does not fit

later_none : (n : ℕ) (o : Option ℕ) → later n o ≡ None → o ≡ None
later_none n None e = refl
later_none n (Some w) e = absurd (cc)

none_wide : (ts : List Token) (b : Before) → wide_from ts b ≡ None → fit_from ts b ≡ true
none_wide [] b e = refl
none_wide (t ∷ ts) b e = go (token_fits t b) refl e (none_wide ts (behind t b))
  where
    go : (f : Bool) → token_fits t b ≡ f → (if f then later (landmark t) (wide_from ts (behind t b)) else Some 0) ≡ None
        → (wide_from ts (behind t b) ≡ None → fit_from ts (behind t b) ≡ true) → (token_fits t b && fit_from ts (behind t b)) ≡ true
    go true is e again = and_from (token_fits t b) (fit_from ts (behind t b)) is (again (later_none (landmark t) (wide_from ts (behind t b)) e))
    go false is e again = absurd (cc)

-- a number is a landmark
number_mark : (t : Token) (b : Before) → token_fits t b ≡ false → landmark t ≡ 1
number_mark (token.Mark m) b e = absurd (true≢false e)
number_mark token.Dash b e = absurd (true≢false e)
number_mark (token.Name name) b e = absurd (true≢false e)
number_mark (token.Signed digits) b e = refl
number_mark (token.Unsigned digits) b e = refl
number_mark (token.Text bytes) b e = absurd (true≢false e)
number_mark token.Shared b e = absurd (true≢false e)

later_inside : (l n w : ℕ) (o : Option ℕ) → ((v : ℕ) → o ≡ Some v → v < n) → later l o ≡ Some w → w < l + n
later_inside l n w None h e = absurd (cc)
later_inside l n w (Some v) h e = let same : l + v ≡ w = cc in let less = h v refl in omega (arith, same, less)

wide_inside : (ts : List Token) (b : Before) (w : ℕ) → wide_from ts b ≡ Some w → w < landmarks_in ts
wide_inside [] b w e = absurd (cc)
wide_inside (t ∷ ts) b w e = go (token_fits t b) refl e (wide_inside ts (behind t b))
  where
    go : (f : Bool) → token_fits t b ≡ f → (if f then later (landmark t) (wide_from ts (behind t b)) else Some 0) ≡ Some w
        → ((v : ℕ) → wide_from ts (behind t b) ≡ Some v → v < landmarks_in ts) → w < landmark t + landmarks_in ts
    go true is e again = later_inside (landmark t) (landmarks_in ts) w (wide_from ts (behind t b)) again e
    go false is e again = let none : 0 ≡ w = cc in let one = number_mark t b is in omega (arith, none, one)

pub there_inside : (ts : List Token) (w : ℕ) → first_wide ts ≡ Some w → w < landmarks_in ts
there_inside ts w e = wide_inside ts before.Other w e

pub some_wide : (ts : List Token) → AreWide ts → first_wide ts ≡ None → ⊥
some_wide ts a e = are_fit ts (none_wide ts before.Other e) a

-- ---- the fault of others

abbrev as_defined : Fault → definition.Fault
as_defined f = record { rule = f.rule; place = f.place }

module _ (front : Front) where
  same_fault : (f g : definition.Fault) → ◌≡◌ {A = Checks} (Err f) (Err g) → f ≡ g
  same_fault f g e = cc

  known : (c : Checks) (f : Fault) → Some f ≡ fault_of c → c ≡ Err (as_defined f)
  known (Ok u) f e = absurd (cc)
  known (Err x) f e = let same : f ≡ record { rule = x.rule; place = x.place } = cc in ap (λ (y : Fault). Err (as_defined y)) (sym same)

  module _ (whole : front.is_whole ≡ true) (a : AreWide front.tokens.items) where
    others_here : InPlace front.tokens.items a.items
    others_here = in_place a.items front.tokens.items a.spelled

    pub others_spelled : AreItems (others front.tokens.items)
    others_spelled = record { items = others_here.other; spelled = others_here.spelled }

    pub others_fit : numbers_fit (others front.tokens.items) ≡ true
    others_fit = others_here.fit

    -- others have a fault
    pub faulty : (items : List CItem) → SpellsItems items (others front.tokens.items) → (w : ℕ) → first_wide front.tokens.items ≡ Some w
        → Tells w (first_fault (items_of a.items)) (first_fault (items_of items))
    faulty items d w e =
        subst (λ is. Tells w (first_fault (items_of a.items)) (first_fault (items_of is))) (one_list (others front.tokens.items) others_here.other items others_here.spelled d)
        (others_here.tells w e)

    no_fault : (c : Checks) (f : definition.Fault) → c ≡ Err f → None ≡ fault_of c → ⊥
    no_fault (Ok u) f e none = absurd (cc)
    no_fault (Err x) f e none = absurd (cc)

    pub some_fault : (items : List CItem) → SpellsItems items (others front.tokens.items) → (w : ℕ) → first_wide front.tokens.items ≡ Some w
        → None ≡ fault_of (first_fault (items_of items)) → ⊥
    some_fault items d w e none = let t = faulty items d w e in no_fault (first_fault (items_of items)) t.fault t.there none

    pub wide_told : (items : List CItem) → SpellsItems items (others front.tokens.items) → (w : ℕ) → first_wide front.tokens.items ≡ Some w → (f : Fault)
        → Some f ≡ fault_of (first_fault (items_of items)) → (r : ReadErr) → TellsAt front (told_by w f) r → (version : ℕ) → ReadsTokens version front (Err r)
    wide_told items d w e f is (error.Invalid rule at) h version =
        let t = faulty items d w e in
        let same : t.fault ≡ as_defined f = same_fault t.fault (as_defined f) (sym t.there ∙ known (first_fault (items_of items)) f is) in
        let found : definition.Fault = told_by w f in
        let here : first_fault (items_of a.items) ≡ Err found = t.here ∙ ap (λ x. Err (decoded w x)) same in
        record {
          unit = record { version = version; items = a.items };
          has = record { whole = whole; same_version = refl; spelled = a.spelled };
          breaks = record {
            index = h.index;
            number = found.place;
            fault = here ∙ ap (λ n. broken {A = Unit {0}} n found.place) (sym h.same_rule);
            nth = h.nth;
            place = h.place;
          };
        }
    wide_told items d w e f is (error.NotC at) h version = absurd h
    wide_told items d w e f is (error.Limit l) h version = absurd h
    wide_told items d w e f is error.Memory h version = tt
