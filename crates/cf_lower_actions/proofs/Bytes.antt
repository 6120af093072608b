-- An array of characters is filled with the bytes of a literal, and 0 behind (8.4.2).
use Rattle.std.proofs.Common.{◌≡◌, ℕ, suc, ◌+◌, ◌*◌, ◌<◌, ◌≤◌, nat_le, nat_lt, Bool, true, false, not, ◌&&◌, ◌==◌, List, [], ◌∷◌, ◌++◌, refl, sym, ◌∙◌, ap, subst, arith}
use Rattle.std.specs.Prelude.{Option, Some, None, Result, Ok, pos, length}
use Rattle.std.proofs.lemmas.Bool.Decides.{nat_tests}
use Rattle.cf_base.specs.declared.kind.Kind.{Kind}
use Rattle.cf_base.specs.Integers.{fits as fits_kind, convert}
use Rattle.cf_base.specs.Event.{Undefined}
use Rattle.cf_base.specs.World.{World, Ran, Went, Stops, and_then}
use Rattle.cf_base.proofs.Tests.{all_of, both}
use Rattle.cf_core.specs.Types.{SourceType, void, integer, array, const, is_array, plain as plain_type, element, without_const}
use Rattle.cf_core.specs.Classes.{Class}
use Rattle.cf_core.specs.Core.{item}
use Rattle.cf_core.specs.Places.{Route, Place, is_const, inner, type_at}
use Rattle.cf_core.specs.Size.{size}
use Rattle.cf_core.specs.Store as source
use Rattle.cf_core.specs.Store.{hold}
use Rattle.cf_core.specs.Run.{State, Did, Gives, Malformed, Act, onward, with_object, ◌>>=◌, ◌>>◌, gives, state, valid}
use Rattle.cf_core.specs.Access.{place_type, fill_zeros}
use Rattle.cf_core.specs.Objects.{character_kind, element_count, write_bytes}
use Rattle.cf_lower_layout.specs.Layout.{has_item, offset, leads, LaidOut, const_once}
use Rattle.cf_lower_layout.specs.Sorts.{number, address, scalar_sort, sort_of, c_kind}
use Rattle.cf_lower_layout.proofs.Characters.{kind_by_bare}
use Rattle.cf_lower_layout.proofs.Laid.{laid-part, element-without}
use Rattle.cf_plain.specs.Plain as plain
use Rattle.cf_plain.specs.Plain.{Register, act}
use Rattle.cf_plain.specs.Acts.{Registers, doing}
use Rattle.cf_plain.specs.Running.{Flow, Falls, does}
use Rattle.cc_whole.specs.Plain.{Expression, Statement, in_order}
use Rattle.cc_whole_memory.specs.declared.value.Pointer.TheVariants as pointer
use Rattle.cc_whole_memory.specs.declared.value.Value.{Value}
use Rattle.cc_whole_memory.specs.declared.value.Value.TheVariants as value
use Rattle.cc_whole_memory.specs.Cells.{Cells}
use Rattle.cc_whole_memory.specs.Values.{bytes_of}
use Rattle.cc_whole_memory.specs.Blocks.{Block, Memory, write}
use Rattle.cc_whole_mean.specs.Flow as c
use Rattle.cc_whole_mean.specs.Flow.{in_memory, falling}
use Rattle.cc_whole_mean.proofs.Growth.{grows-does_all, grows-helps, grows-runs}
use Rattle.cf_lower.specs.Kept.{holds, Keeping}
use Rattle.cf_lower.specs.Expressions.{constant_of, address_in}
use Rattle.cf_lower.specs.Statements.{lowered, put, behind, zeros, put_bytes, bytes_in}
use Rattle.cf_lower_relate.specs.Map.{Fixed, Map, Is, is_ended, offset_of, pointer_to, type_of_place}
use Rattle.cf_lower_relate.specs.Relation.{Rel}
use Rattle.cf_lower_relate.proofs.Memory.{write-place}
use Rattle.cf_lower_relate.specs.Scalars.{c_scalar}
use Rattle.cf_lower_relate.proofs.Sorts.{sort-bytes, is-scalar, is-bytes}
use Rattle.cf_lower_steps.specs.Flows.{Simulates}
use Rattle.cf_lower_steps.proofs.Results.{convert-fits}
use Rattle.cf_lower_steps.proofs.Statements.{runs-join}
use Rattle.cf_lower_steps.proofs.Stores.{number-stored, stored-stays}
use Rattle.cf_lower_steps.proofs.Tests.{test-place, test-valid}
use Rattle.cf_lower_turns.specs.Around.{Around, depth_of, inside_at}
use Rattle.cf_lower_turns.specs.Here.{Here}
use Rattle.cf_lower_turns.specs.Scene.{Scene, fixed_in, again_at, c_again_at, helps_at, list_at}
use Rattle.cf_lower_turns.proofs.Following.{sim-here}
use Rattle.cf_lower_leaves.proofs.After.{here-stored}
use Rattle.cf_lower_actions.specs.Fits.{Fits}
use Rattle.cf_lower_actions.specs.Leaf.{IsThere}
use Rattle.cf_lower_actions.proofs.Zeroed.{Changed, Filled, put-filled, behind_it, written}
use Rattle.cf_lower_actions.proofs.Zeros as zeroing
use Rattle.cf_lower_actions.proofs.Zeros.{changed-keeps}

abbrev ok : Memory → Result Memory ℕ
ok m = Ok m

ok-same : {m k : Memory} → ok m ≡ ok k → m ≡ k
ok-same e = cc

false-true : {b : Bool} → b ≡ true → b ≡ false → ⊥
false-true h k = absurd (cc)

no-not : (b : Bool) → not b ≡ true → b ≡ false
no-not true e = absurd (cc)
no-not false e = refl

-- ---- arrays, otherwise than in const

array-size : {a d : SourceType} {n k : ℕ} → array a n ≡ array d k → n ≡ k
array-size e = cc

inner-item : (y a : SourceType) (len i : ℕ) → is_const y ≡ false → without_const y ≡ array a len → i < len → has_item y i ≡ true
inner-item (array d n) a len i bare e lt = let same : n ≡ len = array-size e in grind (arith, nat_tests, same, lt)
inner-item (const y) a len i bare e lt = absurd (cc)
inner-item y a len i bare e lt = absurd (cc)

item-there : (y a : SourceType) (len i : ℕ) → const_once y ≡ true → without_const y ≡ array a len → i < len → has_item (plain_type y) i ≡ true
item-there (const y) a len i once e lt = inner-item y a len i (no-not (is_const y) (both (not (is_const y)) (const_once y) once).0) e lt
item-there (array d n) a len i once e lt = inner-item (array d n) a len i refl e lt
item-there y a len i once e lt = absurd (cc)

count-here : (cs : List Class) (y a : SourceType) (len : ℕ) → without_const y ≡ array a len → element_count cs y ≡ len
count-here cs (const y) a len e = count-here cs y a len e
count-here cs (array d n) a len e = array-size e
count-here cs y a len e = absurd (cc)

-- ---- the source

-- the state behind bytes from a number on
abbrev with_bytes : Kind → Place → ℕ → List ℕ → State → State
with_bytes k p i [] s = s
with_bytes k p i (b ∷ rest) s = with_bytes k p (suc i) rest (with_object p.object (hold (item i ∷ p.route) (Some (source.Number (convert k (pos b))))) s)

writes : (k : Kind) (p : Place) (i : ℕ) (bytes : List ℕ) (s : State) (w : World) → write_bytes k p i bytes s w ≡ Went (Gives tt (with_bytes k p i bytes s)) w
writes k p i [] s w = refl
writes k p i (b ∷ rest) s w = writes k p (suc i) rest (with_object p.object (hold (item i ∷ p.route) (Some (source.Number (convert k (pos b))))) s) w

same-frame : (k : Kind) (p : Place) (i : ℕ) (bytes : List ℕ) (s : State) → (with_bytes k p i bytes s).frame ≡ s.frame
same-frame k p i [] s = refl
same-frame k p i (b ∷ rest) s = same-frame k p (suc i) rest (with_object p.object (hold (item i ∷ p.route) (Some (source.Number (convert k (pos b))))) s)

same-literals : (k : Kind) (p : Place) (i : ℕ) (bytes : List ℕ) (s : State) → (with_bytes k p i bytes s).literals ≡ s.literals
same-literals k p i [] s = refl
same-literals k p i (b ∷ rest) s = same-literals k p (suc i) rest (with_object p.object (hold (item i ∷ p.route) (Some (source.Number (convert k (pos b))))) s)

module _ (z : Scene) (fits : Fits z) (around : Around Keeping) (p : Keeping) (n : ℕ) (g : Registers) (s : State) (t : c.State) (w : World)
    (h : Here (fixed_in z) z.body p (depth_of around) g s t) (r : Register) (kind : Kind) (byte : bytes_of (c_scalar (number kind)) ≡ 1) (len : ℕ) (kr : p r ≡ holds (address (array (integer kind) len)))
    (there : IsThere z.program.classes g s r) (bytes : List ℕ) where
  abbrev pub y : SourceType
  y = array (integer kind) len

  pub no-void : y ≡ void → ⊥
  no-void e = absurd (cc)

  abbrev pub S : Flow → State → c.Flow → Type 0
  S = zeroing.S z fits around p n g s t w h r y kr no-void there

  module _ (o : Place) (is : g r ≡ Some (source.At o)) where
    abbrev K : Fixed
    K = fixed_in z

    abbrev F : Map
    F = h.map

    abbrev b : ℕ
    b = F.block o.object

    abbrev blk : Block
    blk = zeroing.blk z fits around p n g s t w h r y kr no-void there o is

    abbrev q : ℕ
    q = offset_of K F o

    abbrev Now : Memory → Cells → Type 0
    Now = Changed (c_again_at z n) (helps_at z n) z.c_program z.helper z.body.scope z.depth w t (address_in r) b q blk t.memory
        (zeroing.stays z fits around p n g s t w h r y kr no-void there o is)

    known : o.object < F.count
    known = (zeroing.points z fits around p n g s t w h r y kr no-void there o is).same.known

    live : is_ended (F.stage o.object) ≡ false
    live = zeroing.live z fits around p n g s t w h r y kr no-void there o is

    -- the place's type in the map, of the object that stands
    abbrev part : SourceType
    part = type_of_place K F o

    part-leads : leads z.program.classes (F.type o.object) o.route ≡ true
    part-leads =
        ap (λ a. leads z.program.classes a o.route) (sym (zeroing.typed z fits around p n g s t w h r y kr no-void there o is)) ∙ (there o is).1

    part-is : without_const part ≡ y
    part-is =
        ap (λ a. without_const (type_at z.program.classes a o.route)) (sym (zeroing.typed z fits around p n g s t w h r y kr no-void there o is))
        ∙ zeroing.part-type z fits around p n g s t w h r y kr no-void there o is

    laid : LaidOut z.program.classes part
    laid = laid-part z.program.classes (F.type o.object) (h.between.rel.laid o.object known) o.route part-leads

    -- an element
    module _ (i : ℕ) (lt : i < len) where
      abbrev e : Place
      e = inner (item i) o

      element-leads : leads z.program.classes (F.type o.object) (item i ∷ o.route) ≡ true
      element-leads = all_of (leads z.program.classes (F.type o.object) o.route) (has_item (plain_type part) i) part-leads (item-there part (integer kind) len i laid.once part-is lt)

      element-sort : sort_of (element (plain_type part)) ≡ Some (number kind)
      element-sort = ap scalar_sort (element-without part laid.once ∙ ap element part-is)

      element-at : q + i ≡ offset_of K F e
      element-at =
          let one : size z.program.classes (element (plain_type part)) ≡ 1 = sort-bytes z.program.classes (element (plain_type part)) (number kind) element-sort ∙ byte in
          let product : i * size z.program.classes (element (plain_type part)) ≡ i = ap (λ k. i * k) one ∙ (let k : i * 1 ≡ i = omega arith in k) in
          let sum : F.base o.object + offset z.program.classes (F.type o.object) o.route + i
          ≡ F.base o.object + (offset z.program.classes (F.type o.object) o.route + i * size z.program.classes (element (plain_type part))) = omega (arith, product) in
          sum

    record Bytes (i : ℕ) (rest : List ℕ) (u : State) (k : Memory) : Type 0 where
      after : Memory
      now : Cells
      run : list_at z n (put_bytes kind (address_in r) i rest) (in_memory t k) w ≡ Went (c.Falls (in_memory t after)) w
      changed : Now after now
      rel : Rel K F (with_bytes kind o i rest u) after

    abbrev char : ℕ → Expression
    char a = constant_of (convert kind (pos a))

    put-all : (rest : List ℕ) (i : ℕ) → i + length rest ≤ len → (u : State) (k : Memory) (cells : Cells) → Now k cells → Rel K F u k → Bytes i rest u k
    put-all [] i fit u k cells before rel = record { after = k; now = cells; run = refl; changed = before; rel = rel }
    put-all (a ∷ rest) i fit u k cells before rel =
        let x = convert kind (pos a) in
        let made : Value = value.Number (c_kind kind) x in
        let in_kind : fits_kind kind x ≡ true = convert-fits kind (pos a) in
        let same : Is K F (number kind) (source.Number x) made = record { is = refl; fits = in_kind } in
        let room_left : i + suc (length rest) ≤ len = fit in
        let lt : i < len = omega (arith, room_left) in
        let rest-fit : suc i + length rest ≤ len = omega (arith, room_left) in
        let stays = zeroing.stays z fits around p n g s t w h r y kr no-void there o is in
        let room : q + i + bytes_of (c_scalar (number kind)) ≤ blk.size = element-room i lt in
        let first = put-filled (c_again_at z n) (helps_at z n) z.c_program z.helper z.body.scope z.depth w t (address_in r) b q blk t.memory stays (number kind) (char a)
        made (λ k. number-stored kind x in_kind) (stored-stays K F (number kind) (source.Number x) made same) (is-bytes K F (number kind) (source.Number x) made same)
        (is-scalar K F (number kind) (source.Number x) made same) i k cells before room in
        let done = write-place K F u k rel (e i lt) (number kind) known live (element-leads i lt) (element-sort i lt) (source.Number x) made same in
        let stored = written (c_again_at z n) (helps_at z n) z.c_program z.helper z.body.scope z.depth w t (address_in r) b q blk t.memory stays (number kind) (char a)
        made (λ k. number-stored kind x in_kind) (stored-stays K F (number kind) (source.Number x) made same) (is-bytes K F (number kind) (source.Number x) made same)
        (is-scalar K F (number kind) (source.Number x) made same) i k cells before room in
        let memory : done.after ≡ first.after =
        ok-same (sym done.is ∙ ap (λ j. write (pointer.At b j) made k) (sym (element-at i lt)) ∙ stored) in
        let more = put-all rest (suc i) rest-fit (with_object o.object (hold (item i ∷ o.route) (Some (source.Number x))) u) first.after first.now first.changed
        (subst (Rel K F (with_object o.object (hold (item i ∷ o.route) (Some (source.Number x))) u)) memory done.rel) in
        record {
          after = more.after;
          now = more.now;
          run = runs-join (c_again_at z n) (helps_at z n) z.c_program z.helper z.body.scope z.depth (put (number kind) (behind (address_in r) i) (char a) ∷ [])
              (put_bytes kind (address_in r) (suc i) rest) (in_memory t k) w
              ∙ ap (λ x. and_then x (falling (λ t w. list_at z n (put_bytes kind (address_in r) (suc i) rest) t w))) first.run
              ∙ more.run;
          changed = more.changed;
          rel = more.rel;
        }
      where
        element-room : (i : ℕ) → i < len → q + i + bytes_of (c_scalar (number kind)) ≤ blk.size
        element-room i lt =
            let whole : q + 0 + len * size z.program.classes (integer kind) ≤ blk.size = zeroing.room z fits around p n g s t w h r y kr no-void there o is in
            let one : size z.program.classes (integer kind) ≡ 1 = sort-bytes z.program.classes (integer kind) (number kind) refl ∙ byte in
            let all : len * size z.program.classes (integer kind) ≡ len = ap (λ k. len * k) one ∙ (let k : len * 1 ≡ len = omega arith in k) in
            omega (arith, whole, lt, all, byte)

    abbrev zeroed : State
    zeroed = with_object o.object (λ x. zeroing.now_object z fits around p n g s t w h r y kr no-void there o is) s

    abbrev ss : List Statement
    ss = zeros z.program.classes y (address_in r) 0 ++ put_bytes kind (address_in r) 0 bytes

    bytes-there : length bytes ≤ len → Simulates S (Went (Gives (Falls g) (with_bytes kind o 0 bytes zeroed)) w) (list_at z n ss t w)
    bytes-there fit =
        let first = zeroing.filled z fits around p n g s t w h r y kr no-void there o is in
        let more = put-all bytes 0 (let e : 0 + length bytes ≤ len = omega (arith, fit) in e) zeroed first.after first.now first.changed (zeroing.rel-behind z fits around p n g s t w h r y kr no-void there o is) in
        sim-here S (Falls g) (with_bytes kind o 0 bytes zeroed) w (list_at z n ss t w) (c.Falls (in_memory t more.after))
        (runs-join (c_again_at z n) (helps_at z n) z.c_program z.helper z.body.scope z.depth (zeros z.program.classes y (address_in r) 0) (put_bytes kind (address_in r) 0 bytes) t w
        ∙ ap (λ x. and_then x (falling (λ t w. list_at z n (put_bytes kind (address_in r) 0 bytes) t w))) first.run
        ∙ more.run)
        (record {
          after = in_memory t more.after;
          is = refl;
          related = here-stored K z.body p (depth_of around) g s (with_bytes kind o 0 bytes zeroed) t more.after h more.rel (same-frame kind o 0 bytes zeroed) (same-literals kind o 0 bytes zeroed)
              (changed-keeps t.memory more.after b blk more.now (zeroing.stands z fits around p n g s t w h r y kr no-void there o is).there more.changed.next more.changed.there more.changed.elsewhere)
              o.object known live more.changed.elsewhere;
        })

    -- both in the source
    filled : (l : Kind) → l ≡ kind → length bytes ≤ len
        → Simulates S (and_then (doing (write_bytes l o 0 bytes) zeroed w) (λ did w. onward did (λ v. gives (Falls g)) w)) (list_at z n ss t w)
    filled l same fit =
        subst (λ l. Simulates S (and_then (doing (write_bytes l o 0 bytes) zeroed w) (λ did w. onward did (λ v. gives (Falls g)) w)) (list_at z n ss t w)) (sym same)
        (subst (λ ran. Simulates S (and_then (and_then ran (λ did w. onward did (λ v. gives source.Nothing) w)) (λ did w. onward did (λ v. gives (Falls g)) w)) (list_at z n ss t w))
        (sym (writes kind o 0 bytes zeroed w)) (bytes-there fit))

  abbrev go : Place → Act source.Value
  go o = do
    s ← state
    let t = place_type z.program.classes s o
    valid (is_array t)
    valid (nat_le (length bytes) (element_count z.program.classes t))
    fill_zeros z.program.classes o
    doing (write_bytes (character_kind t) o 0 bytes)

  abbrev Q : Ran (Did source.Value) → Type 0
  Q ran = Simulates S (and_then ran (λ did w. onward did (λ v. gives (Falls g)) w)) (list_at z n (zeros z.program.classes y (address_in r) 0 ++ put_bytes kind (address_in r) 0 bytes) t w)

  wrong : Q (Went Malformed w)
  wrong = record { by = tt }

  stops : (k : ℕ) → Q (Stops (Undefined k) w.trace)
  stops k = record {
    by = (grows-does_all (c_again_at z n) (helps_at z n) (grows-runs z.c_program n) (grows-helps z.c_program (c_again_at z n) (grows-runs z.c_program n) z.helper)
        z.c_program z.helper (in_order (zeros z.program.classes y (address_in r) 0 ++ put_bytes kind (address_in r) 0 bytes)) z.body.scope z.depth t w).by;
  }

  bytes-step : Simulates S (does (again_at z n) z.program (act (plain.bytes r bytes)) g s w)
      (list_at z n (zeros z.program.classes y (address_in r) 0 ++ put_bytes kind (address_in r) 0 bytes) t w)
  bytes-step =
      test-place Q s w wrong stops g r go (λ o is.
      test-valid Q s w wrong stops (is_array (place_type z.program.classes s o)) _ (λ array.
      test-valid Q s w wrong stops (nat_le (length bytes) (element_count z.program.classes (place_type z.program.classes s o))) _ (λ le.
      let bare = zeroing.part-type z fits around p n g s t w h r y kr no-void there o is in
      filled o is (character_kind (place_type z.program.classes s o)) (sym (kind_by_bare (place_type z.program.classes s o)) ∙ ap character_kind bare)
      (let count = count-here z.program.classes (place_type z.program.classes s o) (integer kind) len bare in grind (arith, nat_tests, le, count)))))

  pub bytes-done : Simulates S (does (again_at z n) z.program (act (plain.bytes r bytes)) g s w) (list_at z n (lowered (act (plain.bytes r bytes)) (inside_at z.inside around) p) t w)
  bytes-done =
      subst (λ ss. Simulates S (does (again_at z n) z.program (act (plain.bytes r bytes)) g s w) (list_at z n ss t w))
      (sym (ap (λ k. bytes_in z.inside.classes k r bytes) kr ∙ ap (λ cs. zeros cs y (address_in r) 0 ++ put_bytes kind (address_in r) 0 bytes) fits.classes)) bytes-step
