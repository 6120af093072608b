-- The tests by functions and objects are the tests of the file, one by one.
use Rattle.std.proofs.Common.{◌≡◌, Bool, true, ◌&&◌, not, List, [], ◌∷◌, refl}
use Rattle.std.specs.List.{list_all}
use Rattle.cf_base.proofs.Tests.{all_of, both}
use Rattle.cf_core.specs.Core.{Core, Function, Static, CoreFile}
use Rattle.cf_core.specs.Nodes.{nodes}
use Rattle.cf_sequence_lowered.specs.Counts.{is_small, all_small}
use Rattle.cf_sequence_lowered.specs.Labels.{labels_agree}
use Rattle.cf_sequence_lowered.specs.Nodes.{in_functions, in_statics}
use Rattle.cf_sequence_lowered.specs.Operators.{operand_is_promoted}
use Rattle.cf_sequence_lowered.specs.Texts.{literal_fits}
use Rattle.cf_sequence_lowered.specs.Types.{is_of_object, is_of_function, is_of_static, node_types_fit}
use Rattle.cf_lowerable_core.specs.Looks.{node_looks, head_looks, body_looks, function_looks, start_looks, object_looks, static_looks, looks, Looked}

-- what passes one test passes another
all-pass : {X : Type 0} (p q : X → Bool) → ((x : X) → p x ≡ true → q x ≡ true) → (xs : List X) → list_all p xs ≡ true → list_all q xs ≡ true
all-pass p q each [] ok = refl
all-pass p q each (x ∷ xs) ok =
    let parts = both (p x) (list_all p xs) ok in all_of (q x) (list_all q xs) (each x parts.0) (all-pass p q each xs parts.1)

-- what passes two tests passes a third
both-pass : {X : Type 0} (p q r : X → Bool) → ((x : X) → p x ≡ true → q x ≡ true → r x ≡ true) → (xs : List X) → list_all p xs ≡ true → list_all q xs ≡ true
    → list_all r xs ≡ true
both-pass p q r each [] one two = refl
both-pass p q r each (x ∷ xs) one two =
    let first = both (p x) (list_all p xs) one in
    let second = both (q x) (list_all q xs) two in
    all_of (r x) (list_all r xs) (each x first.0 second.0) (both-pass p q r each xs first.1 second.1)

-- ---- one node

record NodeLooked (e : Core) : Type 0 where
  types : node_types_fit e ≡ true
  texts : literal_fits e ≡ true
  labels : labels_agree e ≡ true

node-looked : (e : Core) → node_looks e ≡ true → NodeLooked e
node-looked e ok =
    let one = both (node_types_fit e) (literal_fits e && labels_agree e) ok in
    let two = both (literal_fits e) (labels_agree e) one.1 in
    record { types = one.0; texts = two.0; labels = two.1 }

record StartLooked (e : Core) : Type 0 where
  types : node_types_fit e ≡ true
  texts : literal_fits e ≡ true
  operators : operand_is_promoted e ≡ true

start-looked : (e : Core) → start_looks e ≡ true → StartLooked e
start-looked e ok =
    let one = both (node_types_fit e) (literal_fits e && operand_is_promoted e) ok in
    let two = both (literal_fits e) (operand_is_promoted e) one.1 in
    record { types = one.0; texts = two.0; operators = two.1 }

-- ---- one function, and one object

record FunctionLooked (f : Function) : Type 0 where
  type : is_of_function f.type ≡ true
  locals : list_all is_of_object f.locals ≡ true
  shared : not (f.is_shared && f.is_local) ≡ true
  small : is_small f ≡ true
  body : list_all node_looks (nodes f.body) ≡ true

function-looked : (f : Function) → function_looks f ≡ true → FunctionLooked f
function-looked f ok =
    let body = list_all node_looks (nodes f.body) in
    let shared = not (f.is_shared && f.is_local) in
    let one = both (head_looks f) (body_looks f) ok in
    let two = both (is_of_function f.type) (list_all is_of_object f.locals && shared) one.0 in
    let three = both (list_all is_of_object f.locals) shared two.1 in
    let four = both (is_small f) body one.1 in
    record { type = two.0; locals = three.0; shared = three.1; small = four.0; body = four.1 }

record StaticLooked (x : Static) : Type 0 where
  type : is_of_static x.type ≡ true
  shared : not (x.is_shared && x.is_local) ≡ true
  start : list_all start_looks (nodes x.start) ≡ true

static-looked : (x : Static) → static_looks x ≡ true → StaticLooked x
static-looked x ok =
    let shared = not (x.is_shared && x.is_local) in
    let one = both (object_looks x) (list_all start_looks (nodes x.start)) ok in
    let two = both (is_of_static x.type) shared one.0 in
    record { type = two.0; shared = two.1; start = one.1 }

-- ---- the file

module _ (file : CoreFile) where
  by-functions : (q : Function → Bool) → ((f : Function) → FunctionLooked f → q f ≡ true) → list_all function_looks file.functions ≡ true → list_all q file.functions ≡ true
  by-functions q each ok = all-pass function_looks q (λ f p. each f (function-looked f p)) file.functions ok

  by-statics : (q : Static → Bool) → ((x : Static) → StaticLooked x → q x ≡ true) → list_all static_looks file.statics ≡ true → list_all q file.statics ≡ true
  by-statics q each ok = all-pass static_looks q (λ x p. each x (static-looked x p)) file.statics ok

  in-bodies : (q : Core → Bool) → ((e : Core) → NodeLooked e → q e ≡ true) → list_all function_looks file.functions ≡ true → in_functions q file ≡ true
  in-bodies q each ok =
      by-functions (λ (f : Function). list_all q (nodes f.body)) (λ f l. all-pass node_looks q (λ e p. each e (node-looked e p)) (nodes f.body) l.body) ok

  in-starts : (q : Core → Bool) → ((e : Core) → StartLooked e → q e ≡ true) → list_all static_looks file.statics ≡ true → in_statics q file ≡ true
  in-starts q each ok =
      by-statics (λ (x : Static). list_all q (nodes x.start)) (λ x l. all-pass start_looks q (λ e p. each e (start-looked e p)) (nodes x.start) l.start) ok

  pub looked : looks file ≡ true → Looked file
  looked ok =
      let fs = list_all function_looks file.functions in
      let xs = list_all static_looks file.statics in
      let parts = both fs xs ok in
      record {
        types =
            all_of (list_all (λ (f : Function). is_of_function f.type && list_all is_of_object f.locals) file.functions)
            (list_all (λ (x : Static). is_of_static x.type) file.statics && (in_functions node_types_fit file && in_statics node_types_fit file))
            (by-functions (λ (f : Function). is_of_function f.type && list_all is_of_object f.locals)
            (λ f l. all_of (is_of_function f.type) (list_all is_of_object f.locals) l.type l.locals) parts.0)
            (all_of (list_all (λ (x : Static). is_of_static x.type) file.statics) (in_functions node_types_fit file && in_statics node_types_fit file)
            (by-statics (λ (x : Static). is_of_static x.type) (λ x l. l.type) parts.1)
            (all_of (in_functions node_types_fit file) (in_statics node_types_fit file) (in-bodies node_types_fit (λ e l. l.types) parts.0)
            (in-starts node_types_fit (λ e l. l.types) parts.1)));
        operators = in-starts operand_is_promoted (λ e l. l.operators) parts.1;
        texts = all_of (in_functions literal_fits file) (in_statics literal_fits file) (in-bodies literal_fits (λ e l. l.texts) parts.0)
            (in-starts literal_fits (λ e l. l.texts) parts.1);
        labels = in-bodies labels_agree (λ e l. l.labels) parts.0;
        counts = by-functions is_small (λ f l. l.small) parts.0;
        shared = all_of (list_all (λ (f : Function). not (f.is_shared && f.is_local)) file.functions) (list_all (λ (x : Static). not (x.is_shared && x.is_local)) file.statics)
            (by-functions (λ (f : Function). not (f.is_shared && f.is_local)) (λ f l. l.shared) parts.0)
            (by-statics (λ (x : Static). not (x.is_shared && x.is_local)) (λ x l. l.shared) parts.1);
      }

  -- ---- and back

  pub looks_by : Looked file → looks file ≡ true
  looks_by l =
      let shared_f = list_all (λ (f : Function). not (f.is_shared && f.is_local)) file.functions in
      let shared_x = list_all (λ (x : Static). not (x.is_shared && x.is_local)) file.statics in
      let types_f = list_all (λ (f : Function). is_of_function f.type && list_all is_of_object f.locals) file.functions in
      let types_x = list_all (λ (x : Static). is_of_static x.type) file.statics in
      let t = both types_f (types_x && (in_functions node_types_fit file && in_statics node_types_fit file)) l.types in
      let u = both types_x (in_functions node_types_fit file && in_statics node_types_fit file) t.1 in
      let n = both (in_functions node_types_fit file) (in_statics node_types_fit file) u.1 in
      let s = both shared_f shared_x l.shared in
      let b = both (in_functions literal_fits file) (in_statics literal_fits file) l.texts in
      all_of (list_all function_looks file.functions) (list_all static_looks file.statics) (functions t.0 s.0 n.0 b.0 l.labels l.counts) (statics u.0 s.1 n.1 b.1 l.operators)
    where
      body : (f : Function) → list_all node_types_fit (nodes f.body) ≡ true → list_all literal_fits (nodes f.body) ≡ true → list_all labels_agree (nodes f.body) ≡ true
          → list_all node_looks (nodes f.body) ≡ true
      body f types texts labels =
          both-pass node_types_fit (λ (e : Core). literal_fits e && labels_agree e) node_looks (λ e one two. all_of (node_types_fit e) (literal_fits e && labels_agree e) one two)
          (nodes f.body) types
          (both-pass literal_fits labels_agree (λ (e : Core). literal_fits e && labels_agree e) (λ e one two. all_of (literal_fits e) (labels_agree e) one two) (nodes f.body)
          texts labels)

      start : (x : Static) → list_all node_types_fit (nodes x.start) ≡ true → list_all literal_fits (nodes x.start) ≡ true
          → list_all operand_is_promoted (nodes x.start) ≡ true → list_all start_looks (nodes x.start) ≡ true
      start x types texts operators =
          both-pass node_types_fit (λ (e : Core). literal_fits e && operand_is_promoted e) start_looks
          (λ e one two. all_of (node_types_fit e) (literal_fits e && operand_is_promoted e) one two) (nodes x.start) types
          (both-pass literal_fits operand_is_promoted (λ (e : Core). literal_fits e && operand_is_promoted e) (λ e one two. all_of (literal_fits e) (operand_is_promoted e) one two)
          (nodes x.start) texts operators)

      go : (fs : List Function) → list_all (λ (f : Function). is_of_function f.type && list_all is_of_object f.locals) fs ≡ true
          → list_all (λ (f : Function). not (f.is_shared && f.is_local)) fs ≡ true → list_all (λ (f : Function). list_all node_types_fit (nodes f.body)) fs ≡ true
          → list_all (λ (f : Function). list_all literal_fits (nodes f.body)) fs ≡ true → list_all (λ (f : Function). list_all labels_agree (nodes f.body)) fs ≡ true
          → list_all is_small fs ≡ true → list_all function_looks fs ≡ true
      go [] a b c d e g = refl
      go (f ∷ fs) a b c d e g =
          let a1 = both (is_of_function f.type && list_all is_of_object f.locals) (list_all (λ (f : Function). is_of_function f.type && list_all is_of_object f.locals) fs) a in
          let a2 = both (is_of_function f.type) (list_all is_of_object f.locals) a1.0 in
          let b1 = both (not (f.is_shared && f.is_local)) (list_all (λ (f : Function). not (f.is_shared && f.is_local)) fs) b in
          let c1 = both (list_all node_types_fit (nodes f.body)) (list_all (λ (f : Function). list_all node_types_fit (nodes f.body)) fs) c in
          let d1 = both (list_all literal_fits (nodes f.body)) (list_all (λ (f : Function). list_all literal_fits (nodes f.body)) fs) d in
          let e1 = both (list_all labels_agree (nodes f.body)) (list_all (λ (f : Function). list_all labels_agree (nodes f.body)) fs) e in
          let g1 = both (is_small f) (list_all is_small fs) g in
          let inner = list_all node_looks (nodes f.body) in
          let shared = not (f.is_shared && f.is_local) in
          all_of (function_looks f) (list_all function_looks fs)
          (all_of (head_looks f) (body_looks f)
          (all_of (is_of_function f.type) (list_all is_of_object f.locals && shared) a2.0 (all_of (list_all is_of_object f.locals) shared a2.1 b1.0))
          (all_of (is_small f) inner g1.0 (body f c1.0 d1.0 e1.0)))
          (go fs a1.1 b1.1 c1.1 d1.1 e1.1 g1.1)

      functions : list_all (λ (f : Function). is_of_function f.type && list_all is_of_object f.locals) file.functions ≡ true
          → list_all (λ (f : Function). not (f.is_shared && f.is_local)) file.functions ≡ true → in_functions node_types_fit file ≡ true → in_functions literal_fits file ≡ true
          → in_functions labels_agree file ≡ true → all_small file ≡ true → list_all function_looks file.functions ≡ true
      functions a b c d e g = go file.functions a b c d e g

      go_statics : (xs : List Static) → list_all (λ (x : Static). is_of_static x.type) xs ≡ true → list_all (λ (x : Static). not (x.is_shared && x.is_local)) xs ≡ true
          → list_all (λ (x : Static). list_all node_types_fit (nodes x.start)) xs ≡ true → list_all (λ (x : Static). list_all literal_fits (nodes x.start)) xs ≡ true
          → list_all (λ (x : Static). list_all operand_is_promoted (nodes x.start)) xs ≡ true → list_all static_looks xs ≡ true
      go_statics [] a b c d e = refl
      go_statics (x ∷ xs) a b c d e =
          let a1 = both (is_of_static x.type) (list_all (λ (x : Static). is_of_static x.type) xs) a in
          let b1 = both (not (x.is_shared && x.is_local)) (list_all (λ (x : Static). not (x.is_shared && x.is_local)) xs) b in
          let c1 = both (list_all node_types_fit (nodes x.start)) (list_all (λ (x : Static). list_all node_types_fit (nodes x.start)) xs) c in
          let d1 = both (list_all literal_fits (nodes x.start)) (list_all (λ (x : Static). list_all literal_fits (nodes x.start)) xs) d in
          let e1 = both (list_all operand_is_promoted (nodes x.start)) (list_all (λ (x : Static). list_all operand_is_promoted (nodes x.start)) xs) e in
          let inner = list_all start_looks (nodes x.start) in
          let shared = not (x.is_shared && x.is_local) in
          all_of (static_looks x) (list_all static_looks xs)
          (all_of (object_looks x) inner (all_of (is_of_static x.type) shared a1.0 b1.0) (start x c1.0 d1.0 e1.0)) (go_statics xs a1.1 b1.1 c1.1 d1.1 e1.1)

      statics : list_all (λ (x : Static). is_of_static x.type) file.statics ≡ true → list_all (λ (x : Static). not (x.is_shared && x.is_local)) file.statics ≡ true
          → in_statics node_types_fit file ≡ true → in_statics literal_fits file ≡ true → in_statics operand_is_promoted file ≡ true → list_all static_looks file.statics ≡ true
      statics a b c d e = go_statics file.statics a b c d e
