-- What becomes of the state where an object is made, zeroed or ends.
use Rattle.std.proofs.Common.{◌≡◌, ◌∙◌, ℕ, zero, suc, ◌<◌, ◌+◌, pos, Bool, true, false, ◌&&◌, ◌==◌, nat_lt, List, [], ◌∷◌, ◌++◌, length, map, reverse, slice_get, slice_set, Option, Some, None, Result, Ok, Err, refl, ap, sym, subst, arith, cond}
use Rattle.std.specs.Prelude.{Vec, IfOk, find, bytes_eq}
use Rattle.std.specs.Borrow.{Bor}
use Rattle.std.specs.Global.{Global}
use Rattle.std.proofs.lemmas.Bool.Decides.{nat_tests}
use Rattle.std.proofs.lemmas.List.{length-set, reverse-append, map-append}
use Rattle.cf_base.specs.World.{World, Ran, Went}
use Rattle.cf_core.specs.FromTypes.{Tables}
use Rattle.cf_core.specs.Types.{SourceType, Name, integer, array}
use Rattle.cf_base.specs.Integers.{convert as converted}
use Rattle.cf_core.specs.Core.{item}
use Rattle.cf_core.specs.Places.{Route, Place, inner, type_at}
use Rattle.cf_core.specs.Program.{static_object_of, length_of, first_state}
use Rattle.cf_core.specs.Store.{Value, Number, Object, hold, hold_all, zero_of, zeroed_object}
use Rattle.cf_core.specs.Run.{State, Did, Gives, Act, ◌>>=◌, ◌>>◌, gives, valid, for_all, with_object, object_changed, gone, some_or, Frame, upd, lists_local, declared_object, frame_changed, changed, born}
use Rattle.cf_core.specs.Run as run
use Rattle.cf_core.specs.Access as access
use Rattle.cf_core.specs.Objects as objects
use Rattle.cf_core.specs.Objects.{found_literal, byte_at}
use Rattle.cf_base.specs.declared.kind.Kind.{Kind}
use Rattle.cf_base.specs.declared.kind.Kind.TheVariants.{Char}
use Rattle.cf_run_tree.specs.declared.shape.Bounds.{Bounds}
use Rattle.cf_run_tree.specs.declared.shape.Bounds.TheVariants as bounds
use Rattle.cf_core_objects.specs.declared.object.Storage.TheVariants as storage
use Rattle.cf_run_tree.specs.declared.shape.Form.TheVariants as form
use Rattle.cf_run_tree.specs.declared.program.Program.{Program}
use Rattle.cf_run_tree.specs.declared.program.RunStatic.{RunStatic}
use Rattle.cf_run_tree.specs.Tree.{list_of, arrays, shape_type, object_type, static_of, program_of}
use Rattle.cf_core_place.specs.declared.part.Part.{Part}
use Rattle.cf_core_place.specs.Routes.{route_of}
use Rattle.cf_core_objects.specs.declared.answer.Stop.{Stop}
use Rattle.cf_core_objects.specs.declared.answer.Value.{Value as Given}
use Rattle.cf_core_objects.specs.declared.object.Cell.{Cell}
use Rattle.cf_core_objects.specs.declared.object.Entered.{Entered}
use Rattle.cf_core_objects.specs.declared.object.Held.TheVariants as held
use Rattle.cf_core_objects.specs.declared.object.Literal.{Literal}
use Rattle.cf_core_objects.specs.declared.object.Objects.{Objects}
use Rattle.cf_core_objects.specs.Log.{value_of, noted, logged}
use Rattle.cf_core_objects.specs.Store.{object_of, objects_of, state_of, frame_of, local_object, literal_of, cell_type, first_held, fresh, stored}
use Rattle.cf_core_objects.specs.Made.{new_literal}
use Rattle.cf_core_objects.specs.Answer.{Stopped}
use Rattle.cf_core_objects.specs.Then.{◌▷◌}
use Rattle.cf_core_objects.proofs.ThenLaws.{stops-on}
use Rattle.cf_core_objects.proofs.CellLaws.{SameNames, changed-state, born-state, held-state, state_with}
use Rattle.cf_core.specs.Store.{literal}

-- one object gets a value
pub first-goes : (T : Tables) (e : Entered) (x new : Objects) (at : ℕ) (q : Part) (v : Given) (c d : Cell) (w : World) → slice_get x.cells.items at ≡ Some c
    → new.cells.items ≡ slice_set x.cells.items at d → SameNames x new → d ≡ record c { log = d.log }
    → ((t : SourceType) (old : Route → Option Value) (π : Route) → logged t old d.log.items π ≡ noted t (held.Value q v) (logged t old c.log.items) π)
    → access.first_value (record { object = at; route = route_of q }) (value_of v) (state_of T e x) w ≡ Went (Gives tt (state_of T e new)) w
first-goes T e x new at q v c d w got cells same is h =
    ap (λ (s : State). Went (Gives tt s) w) (changed-state T e x new at c d (hold (route_of q) (Some (value_of v))) got cells same (held-state T c d q v is h))

-- one object is zeroed at a part
pub zeros-go : (T : Tables) (e : Entered) (x new : Objects) (at : ℕ) (q : Part) (c d : Cell) (w : World) → slice_get x.cells.items at ≡ Some c
    → new.cells.items ≡ slice_set x.cells.items at d → SameNames x new → d ≡ record c { log = d.log }
    → ((t : SourceType) (old : Route → Option Value) (π : Route) → logged t old d.log.items π ≡ noted t (held.Zeros q) (logged t old c.log.items) π)
    → access.fill_zeros [] (record { object = at; route = route_of q }) (state_of T e x) w ≡ Went (Gives tt (state_of T e new)) w
zeros-go T e x new at q c d w got cells same is h =
    let zeros : SourceType → Route → Option Value = λ t r. Some (zero_of (type_at [] t (r ++ route_of q))) in
    ap (λ (y : Option Cell). Went (Gives tt (with_object at (hold_all (route_of q) (zeros (object_of T y).type)) (state_of T e x))) w) got
    ∙ ap (λ (s : State). Went (Gives tt s) w)
    (changed-state T e x new at c d (hold_all (route_of q) (zeros (cell_type T c))) got cells same
    (ap (λ (h : Route → Option Value). record (object_of T (Some c)) { held = h }) (λ j π. sym (h (cell_type T c) (first_held (cell_type T c) c.storage) π) j)
    ∙ ap (λ y. object_of T (Some y)) (sym is)))

-- one object ends
pub end-goes : (T : Tables) (e : Entered) (x new : Objects) (at : ℕ) (c : Cell) (w : World) → slice_get x.cells.items at ≡ Some c
    → new.cells.items ≡ slice_set x.cells.items at (record c { is_gone = true }) → SameNames x new
    → object_changed at gone (state_of T e x) w ≡ Went (Gives tt (state_of T e new)) w
end-goes T e x new at c w got cells same =
    ap (λ (s : State). Went (Gives tt s) w) (changed-state T e x new at c (record c { is_gone = true }) gone got cells same refl)

-- the last of a list first
pub last-first : (xs rest : List ℕ) (last : ℕ) (act : ℕ → Act (Unit {0})) (s : State) (w : World) → xs ≡ rest ++ last ∷ []
    → for_all (reverse xs) act s w ≡ (act last s w ▷ (λ _. for_all (reverse rest) act))
last-first xs rest last act s w is = ap (λ (l : List ℕ). for_all l act s w) (ap reverse is ∙ reverse-append rest (last ∷ []))

-- one more object is made
pub born-goes : (T : Tables) (e : Entered) (x new : Objects) (c : Cell) (w : World) → new.cells.items ≡ x.cells.items ++ c ∷ [] → SameNames x new → c.log.items ≡ [] → c.is_gone ≡ false
    → born (fresh T c.shape c.bounds c.storage) (state_of T e x) w ≡ Went (Gives (length x.cells.items) (state_of T e new)) w
born-goes T e x new c w cells same empty live =
    let t = cell_type T c in
    let mk : (Route → Option Value) → Bool → Object = λ h b. record { type = t; held = h; life = λ π. None; storage = (object_of T (Some c)).storage; is_gone = b } in
    let is : fresh T c.shape c.bounds c.storage ≡ object_of T (Some c) = ap (λ l. mk (logged t (first_held t c.storage) l) false) (sym empty) ∙ ap (mk (logged t (first_held t c.storage) c.log.items)) (sym live) in
    ap (λ (y : Object). born y (state_of T e x) w) is ∙ ap (λ (s : State). Went (Gives (length x.cells.items) s) w) (born-state T e x new c cells same)

-- a local gets the object that was made
frames : (e new : Entered) (i o : ℕ) → ((k : ℕ) → local_object (slice_get new.locals.items k) ≡ upd i (Some o) (λ k. local_object (slice_get e.locals.items k)) k) → new.count ≡ e.count → new.name ≡ e.name → new.depth ≡ e.depth → new.scope ≡ e.scope → new.temporaries ≡ e.temporaries
    → lists_local i o (frame_of e) ≡ frame_of new
frames e new i o locals count n d sc te =
    let mkf : ℕ → (ℕ → Option ℕ) → Frame = λ k f. record { function = new.name.now; count = k; this = None; result = None; depth = new.depth; locals = f; scope = reverse new.scope.items; temporaries = reverse new.temporaries.items } in
    sym (ap (λ k. mkf k (λ k. local_object (slice_get new.locals.items k))) count
    ∙ ap (mkf e.count) (λ j k. locals k j)
    ∙ ap (λ (x : Bor (List ℕ)). record (lists_local i o (frame_of e)) { function = x.now; depth = new.depth; scope = reverse new.scope.items; temporaries = reverse new.temporaries.items }) n
    ∙ ap (λ k. record (lists_local i o (frame_of e)) { depth = k; scope = reverse new.scope.items; temporaries = reverse new.temporaries.items }) d
    ∙ ap (λ (x : Vec ℕ Global). record (lists_local i o (frame_of e)) { scope = reverse x.items; temporaries = reverse new.temporaries.items }) sc
    ∙ ap (λ (x : Vec ℕ Global). record (lists_local i o (frame_of e)) { temporaries = reverse x.items }) te)

pub local-as : (T : Tables) (e : Entered) (x : Objects) (i : ℕ) (t : SourceType) (w : World) → i < e.count
    → objects.new_local i t (state_of T e x) w ≡ (declared_object t >>= (λ o. frame_changed (lists_local i o) >> gives o)) (state_of T e x) w
local-as T e x i t w lt = ap (λ (b : Bool). (valid b >> (declared_object t >>= (λ o. frame_changed (lists_local i o) >> gives o))) (state_of T e x) w)
    (let h : nat_lt i e.count ≡ true = grind (arith, nat_tests) in h)

pub local-listed : (T : Tables) (e new : Entered) (x : Objects) (i o : ℕ) (w : World) → ((k : ℕ) → local_object (slice_get new.locals.items k) ≡ upd i (Some o) (λ k. local_object (slice_get e.locals.items k)) k) → new.count ≡ e.count
    → new.name ≡ e.name → new.depth ≡ e.depth → new.scope ≡ e.scope → new.temporaries ≡ e.temporaries
    → (frame_changed (lists_local i o) >> gives o) (state_of T e x) w ≡ Went (Gives o (state_of T new x)) w
local-listed T e new x i o w locals count n d sc te =
    ap (λ (f : Frame). Went (Gives o (record (state_of T e x) { frame = f })) w) (frames e new i o locals count n d sc te)

-- The object of a string literal.
pub text-fresh : (T : Tables) (bytes : Bor (List ℕ)) (n : ℕ) → n ≡ length bytes.now
    → fresh T (record { is_const = false; form = form.Integer Char }) (bounds.One n) (storage.Literal bytes) ≡ objects.literal_of bytes.now
text-fresh T bytes n h = ap (λ (n : ℕ). let x : Object = record { type = array (integer Char) n; held = byte_at bytes.now; life = λ π. None; storage = literal; is_gone = false } in x) h

literals-push : (list : List Literal) (x : Literal) → reverse (map literal_of (list ++ x ∷ [])) ≡ literal_of x ∷ reverse (map literal_of list)
literals-push list x = ap reverse (map-append literal_of list (x ∷ [])) ∙ reverse-append (map literal_of list) (literal_of x ∷ [])

pub text-goes : (T : Tables) (e : Entered) (x y new : Objects) (j o n : ℕ) (f bytes : Bor (List ℕ)) (w : World) → n ≡ length bytes.now
    → born (fresh T (record { is_const = false; form = form.Integer Char }) (bounds.One n) (storage.Literal bytes)) (state_of T e x) w ≡ Went (Gives o (state_of T e y)) w
    → new.cells ≡ y.cells → new.reached ≡ y.reached → new.literals.items ≡ y.literals.items ++ record { function = f; number = j; object = o } ∷ []
    → new_literal j bytes.now f.now (state_of T e x) w ≡ Went (Gives o (state_of T e new)) w
text-goes T e x y new j o n f bytes w count made cells reached literals =
    let go : ℕ → Act ℕ = λ o. changed (λ s. record s { literals = record { function = f.now; number = j; object = o } ∷ s.literals }) >> gives o in
    let all : List run.Literal = record { function = f.now; number = j; object = o } ∷ reverse (map literal_of y.literals.items) in
    ap (λ (ob : Object). (born ob >>= go) (state_of T e x) w) (sym (text-fresh T bytes n count))
    ∙ ap (λ (r : Ran (Did ℕ)). r ▷ go) made
    ∙ ap (λ (s : State). Went (Gives o s) w)
    (ap (λ v. state_with (length v.items) (objects_of T v.items) all (reverse (map (λ name. name.now) y.reached.items)) (frame_of e)) (sym cells)
    ∙ ap (λ v. state_with (length new.cells.items) (objects_of T new.cells.items) all (reverse (map (λ name. name.now) v.items)) (frame_of e)) (sym reached)
    ∙ ap (λ l. state_with (length new.cells.items) (objects_of T new.cells.items) l (reverse (map (λ name. name.now) new.reached.items)) (frame_of e))
    (sym (ap (λ l. reverse (map literal_of l)) literals ∙ literals-push y.literals.items (record { function = f; number = j; object = o }))))

pub text-stops : (T : Tables) (e : Entered) (x : Objects) (j n : ℕ) (f bytes : Bor (List ℕ)) (stop : Stop) (w : World) → n ≡ length bytes.now
    → Stopped stop w (born (fresh T (record { is_const = false; form = form.Integer Char }) (bounds.One n) (storage.Literal bytes)) (state_of T e x) w)
    → Stopped stop w (new_literal j bytes.now f.now (state_of T e x) w)
text-stops T e x j n f bytes stop w count h =
    stops-on stop (born (objects.literal_of bytes.now) (state_of T e x) w) (λ o. changed (λ s. record s { literals = record { function = f.now; number = j; object = o } ∷ s.literals }) >> gives o) w
    (subst (λ (ob : Object). Stopped stop w (born ob (state_of T e x) w)) (text-fresh T bytes n count) h)

abbrev pub is_text : Name → ℕ → run.Literal → Bool
is_text f j x = bytes_eq x.function f && (x.number == j)

pub found-last : (f : Name) (j : ℕ) (xs rest : List Literal) (last : Literal) → xs ≡ rest ++ last ∷ []
    → found_literal (find (is_text f j) (reverse (map literal_of xs))) ≡ found_literal (cond (is_text f j (literal_of last)) (Some (literal_of last)) (find (is_text f j) (reverse (map literal_of rest))))
found-last f j xs rest last is = ap (λ (l : List run.Literal). found_literal (find (is_text f j) l)) (ap (λ l. reverse (map literal_of l)) is ∙ literals-push rest last)

pub found-here : (f : Name) (j : ℕ) (xs rest : List Literal) (last : Literal) → xs ≡ rest ++ last ∷ [] → is_text f j (literal_of last) ≡ true
    → found_literal (find (is_text f j) (reverse (map literal_of xs))) ≡ Some last.object
found-here f j xs rest last is h =
    found-last f j xs rest last is ∙ ap (λ b. found_literal (cond b (Some (literal_of last)) (find (is_text f j) (reverse (map literal_of rest))))) h

pub found-before : (f : Name) (j : ℕ) (xs rest : List Literal) (last : Literal) → xs ≡ rest ++ last ∷ [] → is_text f j (literal_of last) ≡ false
    → found_literal (find (is_text f j) (reverse (map literal_of xs))) ≡ found_literal (find (is_text f j) (reverse (map literal_of rest)))
found-before f j xs rest last is h =
    found-last f j xs rest last is ∙ ap (λ b. found_literal (cond b (Some (literal_of last)) (find (is_text f j) (reverse (map literal_of rest))))) h

pub literal-as : (T : Tables) (e : Entered) (x : Objects) (j : ℕ) (bytes : List ℕ) (o : Option ℕ) (w : World)
    → found_literal (find (is_text e.name.now j) (reverse (map literal_of x.literals.items))) ≡ o
    → objects.literal_object j bytes (state_of T e x) w ≡ some_or o (new_literal j bytes e.name.now) (state_of T e x) w
literal-as T e x j bytes o w h = ap (λ (o : Option ℕ). some_or o (new_literal j bytes e.name.now) (state_of T e x) w) h

-- Static objects.
pub zeroed-cell : (T : Tables) (c : Cell) (x : RunStatic) → c.shape ≡ x.ty.shape → c.bounds ≡ x.ty.bounds → c.storage ≡ storage.Permanent → c.log.items ≡ [] → c.is_gone ≡ false
    → object_of T (Some c) ≡ zeroed_object [] (object_type T x.ty)
zeroed-cell T c x shape bounds st log live =
    let mk : SourceType → _ → List _ → Bool → Object = λ t st log b. record { type = t; held = logged t (first_held t st) log; life = λ π. None; storage = stored st; is_gone = b } in
    ap (λ s. mk (arrays (list_of c.bounds) (shape_type T s)) c.storage c.log.items c.is_gone) shape
    ∙ ap (λ (b : Bounds). mk (arrays (list_of b) (shape_type T x.ty.shape)) c.storage c.log.items c.is_gone) bounds
    ∙ ap (λ st. mk (object_type T x.ty) st c.log.items c.is_gone) st
    ∙ ap (λ log. mk (object_type T x.ty) storage.Permanent log c.is_gone) log
    ∙ ap (λ b. mk (object_type T x.ty) storage.Permanent [] b) live

abbrev pub made_of : Tables → List Cell → List Object
made_of T cells = map (λ (c : Cell). object_of T (Some c)) cells

abbrev pub zeroed_of : Tables → List RunStatic → List Object
zeroed_of T statics = map (λ (x : RunStatic). zeroed_object [] (object_type T x.ty)) statics

pub statics-push : (T : Tables) (old : List Cell) (c : Cell) (x : RunStatic) (xs rest : List RunStatic) (made new : List Cell) → xs ≡ x ∷ rest → object_of T (Some c) ≡ zeroed_object [] (object_type T x.ty)
    → made ≡ old ++ c ∷ [] → made_of T new ≡ made_of T made ++ zeroed_of T rest → made_of T new ≡ made_of T old ++ zeroed_of T xs
statics-push T old c x xs rest made new is zeroed pushed h =
    h ∙ ap (λ l. made_of T l ++ zeroed_of T rest) pushed
    ∙ ap (λ l. l ++ zeroed_of T rest) (map-append (λ (c : Cell). object_of T (Some c)) old (c ∷ []))
    ∙ joined (made_of T old) (object_of T (Some c)) (zeroed_of T rest)
    ∙ ap (λ ob. made_of T old ++ ob ∷ zeroed_of T rest) zeroed
    ∙ ap (λ l. made_of T old ++ zeroed_of T l) (sym is)
  where
    joined : (xs : List Object) (x : Object) (rest : List Object) → (xs ++ x ∷ []) ++ rest ≡ xs ++ x ∷ rest
    joined [] x rest = refl
    joined (y ∷ xs) x rest = ap (λ l. y ∷ l) (joined xs x rest)

statics-at : (T : Tables) (p : Program) (cells : List Cell) (statics : List RunStatic) (o : ℕ) → made_of T cells ≡ zeroed_of T statics → object_of T (slice_get cells o) ≡ static_object_of [] (slice_get (map (static_of T p) statics) o)
statics-at T p [] [] o h = refl
statics-at T p [] (x ∷ statics) o h = absurd (cc)
statics-at T p (c ∷ cells) [] o h = absurd (cc)
statics-at T p (c ∷ cells) (x ∷ statics) zero h = ap (λ (l : List Object). elim l [ [] ↦ object_of T (Some c) | y ∷ rest ↦ y ]) h
statics-at T p (c ∷ cells) (x ∷ statics) (suc o) h = statics-at T p cells statics o (ap (λ (l : List Object). elim l [ [] ↦ [] | y ∷ rest ↦ rest ]) h)

statics-long : (T : Tables) (p : Program) (cells : List Cell) (statics : List RunStatic) → made_of T cells ≡ zeroed_of T statics → length cells ≡ length_of (map (static_of T p) statics)
statics-long T p [] [] h = refl
statics-long T p [] (x ∷ statics) h = absurd (cc)
statics-long T p (c ∷ cells) [] h = absurd (cc)
statics-long T p (c ∷ cells) (x ∷ statics) h = ap suc (statics-long T p cells statics (ap (λ (l : List Object). elim l [ [] ↦ [] | y ∷ rest ↦ rest ]) h))

pub statics-state : (T : Tables) (e : Entered) (p : Program) (x : Objects) → x.literals.items ≡ [] → x.reached.items ≡ [] → made_of T x.cells.items ≡ zeroed_of T p.statics
    → state_of T e x ≡ record (first_state (program_of T p) e.depth) { frame = frame_of e }
statics-state T e p x literals reached h =
    let object : ℕ → Object = λ o. static_object_of [] (slice_get (map (static_of T p) p.statics) o) in
    ap (λ l. state_with (length x.cells.items) (objects_of T x.cells.items) (reverse (map literal_of l)) (reverse (map (λ name. name.now) x.reached.items)) (frame_of e)) literals
    ∙ ap (λ l. state_with (length x.cells.items) (objects_of T x.cells.items) [] (reverse (map (λ name. name.now) l)) (frame_of e)) reached
    ∙ ap (λ n. state_with n (objects_of T x.cells.items) [] [] (frame_of e)) (statics-long T p x.cells.items p.statics h)
    ∙ ap (λ f. state_with (length_of (map (static_of T p) p.statics)) f [] [] (frame_of e)) (λ j o. statics-at T p x.cells.items p.statics o h j)

pub byte-next : (kind : Kind) (p : Place) (i next b : ℕ) (bytes rest : List ℕ) (s : State) (w : World) → bytes ≡ b ∷ rest → next ≡ i + 1
    → objects.write_bytes kind p i bytes s w ≡ (access.first_value (inner (item i) p) (Number (converted kind (pos b))) s w ▷ (λ _. objects.write_bytes kind p next rest))
byte-next kind p i next b bytes rest s w is add =
    ap (λ l. objects.write_bytes kind p i l s w) is
    ∙ ap (λ k. access.first_value (inner (item i) p) (Number (converted kind (pos b))) s w ▷ (λ _. objects.write_bytes kind p k rest)) (let h : suc i ≡ next = omega (arith, add) in h)

pub if-ok : {A B : Type 0} {P Q : A → Type 0} (r : Result A B) → ((a : A) → P a → Q a) → IfOk r P → IfOk r Q
if-ok (Ok a) f h = f a h
if-ok (Err e) f h = h
