-- Lists as initialisers, and the initialisers of locals: the plain statements of a valid one are valid, and the locals that it adds have complete types.
use Rattle.std.proofs.Common.{◌≡◌, ℕ, ◌+◌, Bool, true, false, ◌&&◌, ◌||◌, not, nat_le, nat_lt, if◌then◌else◌, List, [], length, reverse, refl, sym, ap, ◌∙◌, subst, suc}
use Rattle.std.specs.Prelude.{Option, Some, None, slice_get}
use Rattle.std.specs.List.{list_all}
use Rattle.std.proofs.lemmas.Option.{slice_get_within}
use Rattle.std.proofs.lemmas.Bool.{lt-ltb}
use Rattle.cf_base.proofs.Tests.{both, all_of}
use Rattle.cf_core.specs.Types.{SourceType, is_class}
use Rattle.cf_core.specs.Core as core
use Rattle.cf_core.specs.Core.{Core, Cores, MaybeCore, no_temporary, local_temporary, static_temporary, none, absent, given}
use Rattle.cf_core.specs.Places.{is_reference}
use Rattle.cf_core.specs.Nodes.{nodes, nodes_all}
use Rattle.cf_core.specs.Typing.{Scope, Typing, same_type}
use Rattle.cf_core.specs.Typed.{typing}
use Rattle.cf_core.specs.Valid.{Body, is_complete, fits}
use Rattle.cf_plain.specs.Plain.{Register, Plains, act, set, branch, loop, switch, leave, continue, give, nothing, more}
use Rattle.cf_plain.specs.Plain as plain
use Rattle.cf_plain.specs.Valid.{is_of}
use Rattle.cf_sequence.specs.Built.{is_value, is_filling, is_initial, is_held, is_bound}
use Rattle.cf_sequence.specs.Made.{Local, Temporary, temporaries, added, width, held_by}
use Rattle.cf_sequence.specs.Expressions.{Full, Destination, destination, value, flags, ended, settled}
use Rattle.cf_sequence.specs.Statements.{Inside, started}
use Rattle.cf_sequence.proofs.Calling.{never}
use Rattle.cf_sequence.proofs.Filling.{fill, filling-adds, started-is}
use Rattle.cf_sequence.proofs.Fulls.{held_at}
use Rattle.cf_sequence_valid.proofs.Fine.{Fine, fine-none, fine-then, fine-by, fine-act, fine-set, fine-loop, fine-settled, fine-flags, fine-ended}
use Rattle.cf_sequence_valid.proofs.Serves.{as_start, bound-parts, static-starts, either-true}
use Rattle.cf_sequence_valid.proofs.Stands.{Stand, stand-left, stand-right, are_there}
use Rattle.cf_sequence_valid.proofs.Temporaries.{ends-there}
use Rattle.cf_sequence_valid.proofs.Values.{Kept, Good, good-value, complete-two}
use Rattle.cf_core.specs.Types.{class, array, const, is_array, element, plain as unqualified}
use Rattle.cf_core.specs.Classes.{fields_of, class_named}
use Rattle.cf_core.specs.Objects.{count, costs_tick}
use Rattle.cf_core.specs.Typed.{typings, all_start, fields_start, list_starts}
use Rattle.cf_plain.specs.Valid.{action_fits}
use Rattle.std.specs.Prelude.{pos, is_some}
use Rattle.std.proofs.Common.{zero, ◌-◌, ◌∷◌}
use Rattle.cf_sequence.specs.Built.{is_row, is_list, is_element, are_elements}
use Rattle.cf_sequence.specs.Made.{width_all}
use Rattle.cf_sequence.specs.Expressions.{elements, repeated, in_turn, part_in, part_type, parts_count, begun, built}
use Rattle.cf_sequence.proofs.Constants.{constant-value}
use Rattle.cf_sequence.proofs.Filling.{element-holds}
use Rattle.cf_sequence_valid.proofs.Initials.{expression-good, fine-fill, fine-started, complete-initial}

module _ (body : Body) (locals : List SourceType) (keeps : Kept body.scope locals) where
  abbrev scope : Scope
  scope = body.scope

  abbrev are_complete : List SourceType → Bool
  are_complete ts = list_all (is_complete body.scope.classes) ts

  -- ---- lists

  -- it is the initialiser of something
  record Begins (e : Core) : Type 0 where
    type : SourceType
    starts : (typing scope e).start type ≡ true

  abbrev EachBegins : Cores → Type 0
  EachBegins none = Unit {0}
  EachBegins (core.more e es) = Begins e × EachBegins es

  all-begin : (t : SourceType) (es : Cores) → all_start scope t (typings scope es) ≡ true → EachBegins es
  all-begin t none ok = tt
  all-begin t (core.more e es) ok =
      let parts = both ((typing scope e).start t) (all_start scope t (typings scope es)) ok in (record { type = t; starts = parts.0 }, all-begin t es parts.1)

  fields-begin : (ts : List SourceType) (es : Cores) (rest : Typing) → fields_start scope ts (typings scope es) rest ≡ true → EachBegins es
  fields-begin ts none rest ok = tt
  fields-begin [] (core.more e es) rest ok = never ok
  fields-begin (t ∷ ts) (core.more e es) rest ok =
      let parts = both ((typing scope e).start t) (fields_start scope ts (typings scope es) rest) ok in
      (record { type = t; starts = parts.0 }, fields-begin ts es rest parts.1)

  list-begins : (t : SourceType) (es : Cores) (rest : Typing) → list_starts scope (typings scope es) rest t ≡ true → EachBegins es
  list-begins (array t n) es rest ok =
      let few = nat_le (length (typings scope es)) n in
      let more_there = nat_le n (length (typings scope es)) || rest.start t in
      all-begin t es (both few (all_start scope t (typings scope es)) (both (few && all_start scope t (typings scope es)) more_there ok).0).1
  list-begins (class c) es rest ok =
      fields-begin (fields_of scope.classes c) es rest (both (is_some (class_named scope.classes c)) (fields_start scope (fields_of scope.classes c) (typings scope es) rest) ok).1
  list-begins (const t) es rest ok = list-begins t es rest ok
  list-begins t es rest ok = never ok

  -- what an initialiser's code and locals are, and those of the elements of a list
  pub record Sound (e : Core) : Type 0 where
    pub complete : are_complete (added (nodes e)) ≡ true
    pub code : (b c : Bool) (f : Inside) (t : SourceType) (n k : ℕ) → Stand locals k (added (nodes e)) → Fine locals b c (started f.classes t e n k)

  record AllSound (es : Cores) : Type 0 where
    complete : are_complete (added (nodes_all es)) ≡ true
    code : (b c : Bool) (f : Inside) (x : Full) (d : Destination) (i n k : ℕ) → Stand locals k (added (nodes_all es)) → Fine locals b c (elements f.classes x es d i n k)

  initial-sound : (e : Core) → is_initial e ≡ true → Begins e → Sound e
  initial-sound e ok begins = record {
    complete = complete-initial body locals keeps e ok (λ v. as_start begins.type begins.starts);
    code = λ b c f t n k st. fine-started body locals keeps {b = b} {c = c} f t e ok (λ v. as_start begins.type begins.starts) n k st;
  }

  fine-part : {b c : Bool} (n p : Register) (t : SourceType) (i : ℕ) → Fine locals b c (part_in n p t i)
  fine-part {b} {c} n p t i = by (is_array t)
    where
      by : (l : Bool) → Fine locals b c (λ rest. if l then more (set n (plain.decay p)) (more (set (suc n) (plain.number (pos i))) (more (set n (plain.index n (suc n))) rest)) else more (set n (plain.member p i)) rest)
      by true = record { fit = λ rest ok. ok; labelled = λ rest e ok. ok; cases = λ z rest. refl; default = λ rest. refl; differ = λ rest. refl }
      by false = fine-set locals n (plain.member p i) refl

  fine-turn : {b c : Bool} (tick : Bool) (code : Plains → Plains) → ((b c : Bool) → Fine locals b c code) → Fine locals b c (in_turn tick code)
  fine-turn true code p = fine-loop locals (code (more leave nothing)) nothing (Fine.fit (p true true) (more leave nothing) refl) refl
  fine-turn {b} {c} false code p = p b c

  fine-repeated : {b c : Bool} (i j : ℕ) (code : ℕ → Plains → Plains) → ((i : ℕ) → Fine locals b c (code i)) → Fine locals b c (repeated i j code)
  fine-repeated i zero code p = fine-none locals
  fine-repeated i (suc j) code p = fine-then locals (code i) (repeated (suc i) j code) (p i) (fine-repeated (suc i) j code p)

  fine-if : {b c : Bool} (l : Bool) (a : plain.Action) → action_fits locals a ≡ true → Fine locals b c (λ rest. if l then more (act a) rest else rest)
  fine-if true a fits = fine-act locals a fits
  fine-if false a fits = fine-none locals

  abbrev item_code : Bool → Inside → Core → Destination → ℕ → Register → ℕ → Plains → Plains
  item_code tick f e d i n k = in_turn tick (λ rest. part_in n d.register d.type i (started f.classes (part_type f.classes d.type i) e n k rest))

  fine-item : {b c : Bool} (tick : Bool) (f : Inside) (e : Core) → Sound e → (d : Destination) (i n k : ℕ) → Stand locals k (added (nodes e)) → Fine locals b c (item_code tick f e d i n k)
  fine-item tick f e sound d i n k st =
      fine-turn tick (λ rest. part_in n d.register d.type i (started f.classes (part_type f.classes d.type i) e n k rest))
      (λ b c. fine-then locals (part_in n d.register d.type i) (started f.classes (part_type f.classes d.type i) e n k) (fine-part n d.register d.type i)
      (Sound.code sound b c f (part_type f.classes d.type i) n k st))

  filling-sound : (e : Core) → is_filling e ≡ true → Sound e
  filling-sound e ok = record {
    complete = ap are_complete (filling-adds e ok);
    code = λ b c f t n k st. fine-by locals (started f.classes t e n k) (λ rest. more (act (fill e n)) rest) (started-is f.classes t e ok n k) (fine-fill body locals keeps e ok n);
  }

  list-of : (es : Cores) (last : Core) → AllSound es → is_filling last ≡ true → Sound (core.list es last)
  list-of es last row fills =
      let rest_sound = filling-sound last fills in
      record {
        complete = complete-two [] scope locals keeps (nodes_all es) (nodes last) row.complete (Sound.complete rest_sound);
        code = λ b c f t n k st.
            let x : Full = record { first = k; base = suc n } in
            let d : Destination = record { register = n; type = t } in
            let m : Register = suc n + width (core.list es last) in
            let l : ℕ = k + width_all es in
            let tick : Bool = is_array t && costs_tick last f.classes (part_type f.classes t 0) in
            let left : Plains → Plains = repeated (count es) (parts_count f.classes t - count es) (λ i. item_code tick f last d i m l) in
            let none_there : Stand locals l (added (nodes last)) = subst (Stand locals l) (sym (filling-adds last fills)) tt in
            fine-then locals (begun f.classes d) (λ rest. elements f.classes x es d 0 m k (left (built f.classes d rest))) (fine-if (is_class t) (plain.begin_list n) refl)
            (fine-then locals (elements f.classes x es d 0 m k) (λ rest. left (built f.classes d rest)) (row.code b c f x d 0 m k (stand-left locals k (nodes_all es) (nodes last) st))
            (fine-then locals left (built f.classes d)
            (fine-repeated (count es) (parts_count f.classes t - count es) (λ i. item_code tick f last d i m l) (λ i. fine-item tick f last rest_sound d i m l none_there)) (fine-if (is_class t) (plain.end_list n) refl)));
      }

  row-of : (e : Core) (es : Cores) → Sound e → AllSound es → AllSound (core.more e es)
  row-of e es sound row = record {
    complete = complete-two [] scope locals keeps (nodes e) (nodes_all es) (Sound.complete sound) row.complete;
    code = λ b c f x d i n k st.
        let tick : Bool = is_array d.type && costs_tick e f.classes (part_type f.classes d.type i) in
        fine-then locals (item_code tick f e d i n k) (elements f.classes x es d (suc i) n (k + width e)) (fine-item tick f e sound d i n k (stand-left locals k (nodes e) (nodes_all es) st))
        (row.code b c f x d (suc i) n (k + width e) (stand-right locals k (nodes e) (nodes_all es) st));
  }

  mutual
    list-sound : (u : SourceType) (e : Core) → is_list u e ≡ true → Begins e → Sound e
    list-sound u (core.list es last) ok begins =
        let v : SourceType = element (unqualified u) in
        let parts = both (are_elements v es) (is_filling last) (both (is_row u) (are_elements v es && is_filling last) ok).1 in
        list-of es last (elements-sound v es parts.0 (list-begins begins.type es (typing scope last) begins.starts)) parts.1
    list-sound u e ok begins = never ok

    elements-sound : (u : SourceType) (es : Cores) → are_elements u es ≡ true → EachBegins es → AllSound es
    elements-sound u none ok each = record { complete = refl; code = λ b c f x d i n k st. fine-none locals }
    elements-sound u (core.more e es) ok each =
        let parts = both (is_element u e) (are_elements u es) ok in
        row-of e es (either-true (is_initial e) (is_list u e) parts.0 (λ initial. initial-sound e initial each.0) (λ is. list-sound u e is each.0)) (elements-sound u es parts.1 each.1)

  -- an initialiser of an object of one type, as it is typed at another
  pub element-sound : (u t : SourceType) (e : Core) → is_element u e ≡ true → (typing scope e).start t ≡ true → Sound e
  element-sound u t e ok fit =
      let begins : Begins e = record { type = t; starts = fit } in
      either-true (is_initial e) (is_list u e) ok (λ initial. initial-sound e initial begins) (λ is. list-sound u e is begins)

  -- what binds a static reference
  pub bound-sound : (t : SourceType) (e : Core) → is_bound e ≡ true → (typing scope e).start t ≡ true → Sound e
  bound-sound t (core.bind no_temporary e) ok fit = initial-sound (core.bind no_temporary e) (constant-value e ok) (record { type = t; starts = fit })
  bound-sound t (core.bind (static_temporary name) e) ok fit =
      let is = constant-value e ok in
      let typed = static-starts scope name (typing scope e) t fit in
      record {
        complete = Good.complete (good-value [] scope locals keeps e is (as_start typed.0 typed.1));
        code = λ b c f t n k st.
            let x : Full = record { first = k; base = suc n } in
            let m : Register = suc n + width e in
            let ts : List Temporary = temporaries false e k in
            let last : Plains → Plains = λ rest. more (act (plain.first n m)) (ended x (reverse ts) rest) in
            let keeps_place : Plains → Plains = λ rest. more (set m (plain.finish_static name)) (settled e m (suc m) (last rest)) in
            fine-then locals (flags x ts) (λ rest. value f.classes x e None (suc m) k (keeps_place rest)) (fine-flags locals x ts)
            (fine-then locals (value f.classes x e None (suc m) k) keeps_place (Good.code (expression-good body locals keeps f e is (as_start typed.0 typed.1)) b c x None (suc m) k st)
            (fine-then locals (λ rest. more (set m (plain.finish_static name)) rest) (λ rest. settled e m (suc m) (last rest)) (fine-set locals m (plain.finish_static name) refl)
            (fine-then locals (settled e m (suc m)) last (fine-settled locals e m (suc m))
            (fine-then locals (λ rest. more (act (plain.first n m)) rest) (ended x (reverse ts)) (fine-act locals (plain.first n m) refl) (fine-ended locals x (reverse ts) (ends-there locals e is k st))))));
      }
  bound-sound t e ok fit = never ok

  -- ---- the initialisers of locals

  -- a local that is declared, as a type that may differ in const
  pub local-there : (i : ℕ) (t : SourceType) → same_type (slice_get scope.locals i) t ≡ true → is_of (slice_get locals i) t ≡ true
  local-there i t ok = by (slice_get scope.locals i) refl ok
    where
      by : (o : Option SourceType) → slice_get scope.locals i ≡ o → same_type o t ≡ true → is_of (slice_get locals i) t ≡ true
      by None e ok = never ok
      by (Some u) e ok = ap (λ o. is_of o t) (keeps.kept i u e) ∙ ok

  number-there : (i : ℕ) (t : SourceType) → same_type (slice_get scope.locals i) t ≡ true → nat_lt i (length locals) ≡ true
  number-there i t ok = by (slice_get scope.locals i) refl ok
    where
      by : (o : Option SourceType) → slice_get scope.locals i ≡ o → same_type o t ≡ true → nat_lt i (length locals) ≡ true
      by None e ok = never ok
      by (Some u) e ok = lt-ltb i (length locals) (slice_get_within locals i u (keeps.kept i u e))

  -- An initialiser of a local: what it adds is complete, a temporary that it binds is there, and its code fits.
  pub record StartsWell (t : SourceType) (e : Core) : Type 0 where
    pub complete : are_complete (added (nodes e)) ≡ true
    pub there : are_there locals (held_by e) ≡ true
    pub code : (b c : Bool) (f : Inside) (k : ℕ) → Stand locals k (added (nodes e)) → Fine locals b c (started f.classes t e 0 k)

  starts-element : (t : SourceType) (e : Core) → is_element t e ≡ true → (typing scope e).start t ≡ true → StartsWell t e
  starts-element t e ok fit =
      let sound = element-sound t t e ok fit in
      record {
        complete = Sound.complete sound;
        there = ap (λ (xs : List Local). are_there locals xs) (element-holds t e ok);
        code = λ b c f k st. Sound.code sound b c f t 0 k st;
      }

  starts-held : (i : ℕ) (t : SourceType) (e : Core) → is_held i e ≡ true → (typing scope e).start t ≡ true → StartsWell t e
  starts-held i t (core.bind (local_temporary j u) e) ok fit =
      let is : is_value e ≡ true = (both (not (is_reference u)) (is_value e) (both (nat_lt i j) (not (is_reference u) && is_value e) ok).1).1 in
      let parts = bound-parts scope j u (typing scope e) t fit in
      let n : Register = held_at e 0 in
      record {
        complete = Good.complete (good-value [] scope locals keeps e is (as_start u parts.1));
        there = all_of (is_of (slice_get locals j) u) true (local-there j u parts.0) refl;
        code = λ b c f k st.
            let x : Full = record { first = k; base = 1 } in
            let ts : List Temporary = temporaries false e k in
            let last : Plains → Plains = λ rest. more (act (plain.first 0 n)) (ended x (reverse ts) rest) in
            let inner : Plains → Plains = λ rest. value f.classes x e (destination (suc n) u) (suc (suc n)) k (settled e (suc n) (suc (suc n)) (last rest)) in
            let named : Plains → Plains = λ rest. more (set n (plain.local j)) (inner rest) in
            fine-then locals (flags x ts) (λ rest. more (set (suc n) (plain.declare j u)) (named rest)) (fine-flags locals x ts)
            (fine-then locals (λ rest. more (set (suc n) (plain.declare j u)) rest) named (fine-set locals (suc n) (plain.declare j u) (local-there j u parts.0))
            (fine-then locals (λ rest. more (set n (plain.local j)) rest) inner (fine-set locals n (plain.local j) (number-there j u parts.0))
            (fine-then locals (value f.classes x e (destination (suc n) u) (suc (suc n)) k) (λ rest. settled e (suc n) (suc (suc n)) (last rest))
            (Good.code (expression-good body locals keeps f e is (as_start u parts.1)) b c x (destination (suc n) u) (suc (suc n)) k st)
            (fine-then locals (settled e (suc n) (suc (suc n))) last (fine-settled locals e (suc n) (suc (suc n)))
            (fine-then locals (λ rest. more (act (plain.first 0 n)) rest) (ended x (reverse ts)) (fine-act locals (plain.first 0 n) refl) (fine-ended locals x (reverse ts) (ends-there locals e is k st)))))));
      }
  starts-held i t e ok fit = never ok

  pub starts-well : (i : ℕ) (t : SourceType) (e : Core) → (is_element t e || is_held i e) ≡ true → (typing scope e).start t ≡ true → StartsWell t e
  starts-well i t e ok fit = either-true (is_element t e) (is_held i e) ok (λ element. starts-element t e element fit) (λ held. starts-held i t e held fit)
