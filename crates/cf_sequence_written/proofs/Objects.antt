-- What is written for a built static object is the definition's, and the numbers of types in it are there in the tables.
use Rattle.std.proofs.Common.{◌≡◌, ℕ, Bool, true, false, not, ◌&&◌, ◌||◌, cond, List, [], ◌∷◌, ◌++◌, map, length, Some, slice_get, refl, sym, ap, subst, ◌∙◌, if◌then◌else◌}
use Rattle.std.specs.Prelude.{find, bytes_eq}
use Rattle.std.specs.List.{list_all, list_any}
use Rattle.std.specs.declared.alloc.Global.{Global}
use Rattle.cf_base.proofs.Tests.{both, same_bytes, bytes_same}
use Rattle.cf_classes.specs.declared.class.MemberRef.{MemberRef}
use Rattle.cf_types.specs.declared.ty.Ty.{Ty}
use Rattle.cf_types.specs.Table.{Names}
use Rattle.cf_core.specs.declared.unit.CoreStatic.{CoreStatic}
use Rattle.cf_core.specs.Types.{Name, SourceType, parameters}
use Rattle.cf_core.specs.Classes.{Class}
use Rattle.cf_core.specs.Core.{Static}
use Rattle.cf_core.specs.Joined.{is_nothing}
use Rattle.cf_core.specs.Valid.{all_differ}
use Rattle.cf_core.specs.FromTypes.{Tables, type_of}
use Rattle.cf_core.specs.FromClasses.{signature_of}
use Rattle.cf_core.specs.FromUnit.{static_of}
use Rattle.cf_core.specs.Numbers as numbers
use Rattle.cf_core.specs.Numbers.{has_type, are_known}
use Rattle.cf_plain.specs.declared.action.Action.TheVariants as action
use Rattle.cf_plain.specs.Plain.{Plains, PlainStatic, act as acts, nothing, more}
use Rattle.cf_plain.specs.Plain as plain
use Rattle.cf_plain.specs.Numbers as plain_numbers
use Rattle.cf_plain.specs.View as view
use Rattle.cf_plain.specs.View.{plains_of}
use Rattle.cf_sequence.specs.Built.{is_row, is_element, is_built_static, has_mark}
use Rattle.cf_sequence.specs.Made.{width}
use Rattle.cf_sequence.specs.Statements.{type_of_static, initialised}
use Rattle.cf_sequence.specs.Statements as definition
use Rattle.cf_sequence.specs.Sequenced.{sequenced_start, sequenced_static}
use Rattle.cf_sequence.proofs.Constants.{set_as, start-is, constant-object, constant-start, something-constant, by-set, constant-element}
use Rattle.cf_sequence.proofs.JoinedObjects.{is_among, type-behind}
use Rattle.cf_sequence.proofs.OwnNames.{is_own}
use Rattle.cf_sequence.proofs.StaticObjects.{type_found}
use Rattle.cf_sequence.proofs.Calling.{never}
use Rattle.cf_sequence_expr.specs.declared.writing.Writing.{Writing}
use Rattle.cf_sequence_expr.specs.Writes.{act}
use Rattle.cf_sequence_expr.specs.Parameters.{parameters_at}
use Rattle.cf_sequence_expr.specs.Pieces.{Piece, piece}
use Rattle.cf_sequence_stmt.specs.Bodies.{Initial, does_nothing, fills, lists, gives, is_blank, started, reached, placed}
use Rattle.cf_sequence_stmt.specs.Steps.{step, binds}
use Rattle.cf_sequence_stmt.proofs.Pieces.{same_piece}
use Rattle.cf_sequence_fn.specs.Functions.{blank_writing, written_object}
use Rattle.cf_sequence_written.proofs.Adding.{Adds, adding}
use Rattle.cf_sequence_written.proofs.Bound.{binds-is}
use Rattle.cf_sequence_written.proofs.Followed.{followed-end}
use Rattle.cf_sequence_written.proofs.Puts.{Puts, Still, still-set, still-act, still-then, still-puts, puts-still}
use Rattle.cf_sequence_written.proofs.Parameters.{RowOf}
use Rattle.cf_sequence_written.proofs.Wholes.{Initiates, as-found, puts-started}
use Rattle.cf_sequence_written.proofs.Stated.{Stated, written-statement, initiates, initiates-bound}
use Rattle.cf_sequence_written.proofs.Known.{KnownPiece, Keeps, keeps-then, keeps-set, keeps-act, and-true}
use Rattle.cf_sequence_written.proofs.KnownPieces.{known-piece}
use Rattle.cf_sequence_written.proofs.KnownSteps.{KnownInitial, keeps-started}
use Rattle.cf_sequence_written.proofs.KnownLists.{initial-known}

-- ---- the type of a name, where no two objects of a file have one name

abbrev names_of : List Static → List Name
names_of xs = map (λ (x : Static). x.name) xs

differ-right : (ms ns : List Name) → all_differ (ms ++ ns) ≡ true → all_differ ns ≡ true
differ-right [] ns ok = ok
differ-right (m ∷ ms) ns ok = differ-right ms ns (both (not (list_any (bytes_eq m) (ms ++ ns))) (all_differ (ms ++ ns)) ok).1

-- a name among others, seen from either side
turned : (a b : Name) → bytes_eq a b ≡ bytes_eq b a
turned a b = by (bytes_eq a b) refl
  where
    by : (v : Bool) → bytes_eq a b ≡ v → v ≡ bytes_eq b a
    by true e = sym (bytes_same b a (sym (same_bytes a b e)))
    by false e = other (bytes_eq b a) refl
      where
        other : (u : Bool) → bytes_eq b a ≡ u → false ≡ u
        other true f = sym e ∙ bytes_same a b (sym (same_bytes b a f))
        other false f = refl

-- objects before it have other names
not-before : (xs : List Static) (name : Name) (others : List Name) → all_differ (names_of xs ++ name ∷ others) ≡ true → is_among name xs ≡ false
not-before [] name others ok = refl
not-before (x ∷ xs) name others ok =
    let parts = both (not (list_any (bytes_eq x.name) (names_of xs ++ name ∷ others))) (all_differ (names_of xs ++ name ∷ others)) ok in
    ap (λ b. b || is_among name xs) (absent xs parts.0) ∙ not-before xs name others parts.1
  where
    absent : (ys : List Static) → not (list_any (bytes_eq x.name) (names_of ys ++ name ∷ others)) ≡ true → bytes_eq x.name name ≡ false
    absent [] e = by (bytes_eq x.name name) (list_any (bytes_eq x.name) others) e
      where
        by : (a b : Bool) → not (a || b) ≡ true → a ≡ false
        by true b e = sym e
        by false b e = refl
    absent (y ∷ ys) e = absent ys (later (bytes_eq x.name y.name) (list_any (bytes_eq x.name) (names_of ys ++ name ∷ others)) e)
      where
        later : (a b : Bool) → not (a || b) ≡ true → not b ≡ true
        later true b e = never e
        later false b e = e

own-type : (before : List Static) (x : Static) (after : List Static) → all_differ (names_of before ++ names_of (x ∷ after)) ≡ true
    → type_of_static (before ++ x ∷ after) x.name ≡ x.type
own-type before x after ok =
    type-behind before (x ∷ after) x.name (not-before before x.name (names_of after) ok)
    ∙ ap (λ b. type_found (cond b (Some x) (find (λ (y : Static). bytes_eq y.name x.name) after))) (bytes_same x.name x.name refl)

-- ---- one object

module _ (tables : Tables) (params : (t : ℕ) → map (type_of tables) (parameters_at tables.types t) ≡ parameters (type_of tables t))
    (rows : (t : ℕ) → is_row (type_of tables t) ≡ true → RowOf tables t) (classes : List Class) (statics : List Static)
    (alloc : Global) (x : CoreStatic) (built : is_built_static statics (static_of tables x) ≡ true) (typed : type_of_static statics x.name ≡ type_of tables x.ty) where
  abbrev signature : MemberRef → Name
  signature = signature_of tables

  abbrev X : Static
  X = static_of tables x

  abbrev T : SourceType
  T = type_of tables x.ty

  abbrev p : Piece
  p = (step tables.types x.start).piece

  written : Stated tables signature params rows (step tables.types x.start) X.start
  written = written-statement tables signature params rows x.start

  abbrev initial : Initial
  initial = (step tables.types x.start).initial

  object : is_nothing X.start ≡ false → Initiates tables signature initial p x.ty X.start
  object e =
      let t : SourceType = type_of_static statics x.name in
      by-set t X.start (something-constant t X.start (constant-start statics X built) e) (λ bound. initiates-bound tables signature params rows x.start written x.ty bound)
      (λ other constant.
      initiates tables signature params rows x.start written x.ty (subst (λ t. is_element t X.start ≡ true) typed (constant-element t X.start constant)))

  blank-is : is_blank initial ≡ is_nothing X.start
  blank-is = as-found tables signature initial X.start (Stated.initial written)

  still-reached : (b : Bool) → Still tables signature (reached x.name x.ty b) (definition.reached b T x.name)
  unfolding reached
  still-reached true = still-set tables signature 0 (action.Reach x.name)
  still-reached false = still-then tables signature (still-act tables signature (action.Reach x.name)) (still-set tables signature 0 (action.Static x.name x.ty))

  -- what is written where there is an initialiser
  abbrev put_there : Writing → Writing
  put_there w = act (action.FinishStatic x.name) (started initial p x.ty 0 (reached x.name x.ty (binds x.start) w))

  puts-placed : is_nothing X.start ≡ false
      → Puts tables signature put_there
      (λ k rest. definition.reached (binds x.start) T x.name (definition.started classes T X.start 0 k (more (acts (plain.finish_static x.name)) rest))) (width X.start)
  puts-placed e =
      still-puts tables signature (still-reached (binds x.start))
      (puts-still tables signature (puts-started tables signature classes x.ty 0 initial (object e)) (still-act tables signature (action.FinishStatic x.name)))

  start-as : (b : Bool) → is_nothing X.start ≡ b
      → plains_of tables signature (Writing.code (if b then blank_writing alloc else put_there (blank_writing alloc))) ≡ (if b then nothing else initialised classes T x.name X.start 0 nothing)
  start-as true e = refl
  start-as false e =
      sym (followed-end tables signature (Writing.code (put_there (blank_writing alloc)))) ∙ Puts.code (puts-placed e) (blank_writing alloc) nothing
      ∙ ap (λ b. definition.reached b T x.name (definition.started classes T X.start 0 0 (more (acts (plain.finish_static x.name)) nothing))) (binds-is tables signature x.start)

  start-written : plains_of tables signature (Writing.code (placed x.name x.ty (binds x.start) initial p (blank_writing alloc))) ≡ sequenced_start classes statics X
  unfolding placed
  start-written =
      ap (λ b. plains_of tables signature (Writing.code (if b then blank_writing alloc else put_there (blank_writing alloc)))) blank-is
      ∙ start-as (is_nothing X.start) refl
      ∙ ap (set_as classes X) (sym typed)
      ∙ sym (start-is classes statics X (constant-object statics X built))

  pub object-is : view.static_of tables (written_object tables.types alloc x) ≡ sequenced_static classes statics X
  unfolding written_object
  object-is =
      ap (λ (ls : List SourceType). let y : PlainStatic = record (view.static_of tables (written_object tables.types alloc x)) { locals = ls } in y) (Adds.adds (adding tables signature params x.start) [])
      ∙ ap (λ (ss : Plains). let y : PlainStatic = record (sequenced_static classes statics X) { start = ss } in y) start-written

-- ---- all of a file

module _ (tables : Tables) (params : (t : ℕ) → map (type_of tables) (parameters_at tables.types t) ≡ parameters (type_of tables t))
    (rows : (t : ℕ) → is_row (type_of tables t) ≡ true → RowOf tables t) (classes : List Class) (alloc : Global) where
  abbrev cores : List CoreStatic → List Static
  cores xs = map (static_of tables) xs

  later : (before : List Static) (x : Static) (after : List Static) → before ++ x ∷ after ≡ (before ++ x ∷ []) ++ after
  later [] x after = refl
  later (y ∷ ys) x after = ap (λ (zs : List Static). y ∷ zs) (later ys x after)

  -- of those behind others
  objects-behind : (all before : List Static) (xs : List CoreStatic) → all ≡ before ++ cores xs → list_all (is_own all) (cores xs) ≡ true → all_differ (names_of all) ≡ true
      → map (view.static_of tables) (map (written_object tables.types alloc) xs) ≡ map (sequenced_static classes all) (cores xs)
  objects-behind all before [] is ok differ = refl
  objects-behind all before (x ∷ xs) is ok differ =
      let parts = both (is_own all (static_of tables x)) (list_all (is_own all) (cores xs)) ok in
      ap (λ (y : PlainStatic). y ∷ map (view.static_of tables) (map (written_object tables.types alloc) xs))
      (object-is tables params rows classes all alloc x (both (is_built_static all (static_of tables x)) (not (has_mark x.name)) parts.0).0
      (ap (λ zs. type_of_static zs x.name) is
      ∙ own-type before (static_of tables x) (cores xs) (sym (ap all_differ (names-two before (cores (x ∷ xs)))) ∙ ap (λ zs. all_differ (names_of zs)) (sym is) ∙ differ)))
      ∙ ap (λ (ys : List PlainStatic). sequenced_static classes all (static_of tables x) ∷ ys)
      (objects-behind all (before ++ static_of tables x ∷ []) xs (is ∙ later before (static_of tables x) (cores xs)) parts.1 differ)
    where
      names-two : (xs ys : List Static) → names_of (xs ++ ys) ≡ names_of xs ++ names_of ys
      names-two [] ys = refl
      names-two (x ∷ xs) ys = ap (λ (ns : List Name). x.name ∷ ns) (names-two xs ys)

  pub objects-are : (xs : List CoreStatic) (functions : List Name) → list_all (is_own (cores xs)) (cores xs) ≡ true → all_differ (functions ++ names_of (cores xs)) ≡ true
      → map (view.static_of tables) (map (written_object tables.types alloc) xs) ≡ map (sequenced_static classes (cores xs)) (cores xs)
  objects-are xs functions ok differ = objects-behind (cores xs) [] xs refl ok (differ-right functions (names_of (cores xs)) differ)

-- ---- numbers of types

module _ (tables : Tables) (names : (i : ℕ) (v : Ty) → slice_get tables.types.types i ≡ Some v → Names tables.types.funs i (length tables.types.funs) v) (alloc : Global) where
  keeps-reached : (name : List ℕ) (t : ℕ) (b : Bool) → has_type tables t ≡ true → Keeps tables (reached name t b)
  unfolding reached
  keeps-reached name t true there = keeps-set tables 0 (action.Reach name) refl
  keeps-reached name t false there = keeps-then tables (keeps-act tables (action.Reach name) refl) (keeps-set tables 0 (action.Static name t) there)

  keeps-set-there : (name : List ℕ) (t : ℕ) (b : Bool) (initial : Initial) (p : Piece) → has_type tables t ≡ true → KnownInitial tables initial → KnownPiece tables p
      → Keeps tables (λ w. act (action.FinishStatic name) (started initial p t 0 (reached name t b w)))
  keeps-set-there name t b initial p there known q =
      keeps-then tables (keeps-then tables (keeps-reached name t b there) (keeps-started tables initial p t 0 there known q)) (keeps-act tables (action.FinishStatic name) refl)

  keeps-placed : (name : List ℕ) (t : ℕ) (b : Bool) (initial : Initial) (p : Piece) → has_type tables t ≡ true → KnownInitial tables initial → KnownPiece tables p
      → Keeps tables (placed name t b initial p)
  unfolding placed
  keeps-placed name t b does_nothing p there known q = record { keeps = λ w ok. ok }
  keeps-placed name t b (fills a) p there known q = keeps-set-there name t b (fills a) p there known q
  keeps-placed name t b (lists f) p there known q = keeps-set-there name t b (lists f) p there known q
  keeps-placed name t b gives p there known q = keeps-set-there name t b gives p there known q

  object-known : (x : CoreStatic) → numbers.static_known tables x ≡ true → plain_numbers.static_known tables (written_object tables.types alloc x) ≡ true
  unfolding written_object
  object-known x ok =
      let parts = both (has_type tables x.ty) (are_known tables x.start) ok in
      let known = known-piece tables names x.start parts.1 in
      let s = step tables.types x.start in
      and-true (has_type tables x.ty && list_all (has_type tables) ((piece tables.types x.start).locals [])) _
      (and-true (has_type tables x.ty) _ parts.0 (KnownPiece.locals known [] refl))
      (Keeps.keeps (keeps-placed x.name x.ty (binds x.start) s.initial s.piece parts.0 (initial-known tables names x.start parts.1) (subst (KnownPiece tables) (sym (same_piece tables.types x.start)) known)) (blank_writing alloc) refl)

  pub objects-known : (xs : List CoreStatic) → list_all (numbers.static_known tables) xs ≡ true → list_all (plain_numbers.static_known tables) (map (written_object tables.types alloc) xs) ≡ true
  objects-known [] ok = refl
  objects-known (x ∷ xs) ok =
      let parts = both (numbers.static_known tables x) (list_all (numbers.static_known tables) xs) ok in
      and-true (plain_numbers.static_known tables (written_object tables.types alloc x)) _ (object-known x parts.0) (objects-known xs parts.1)
