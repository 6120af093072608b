-- The objects of arguments come into the blocks of the parameters.
use Rattle.std.proofs.Common.{◌≡◌, ℕ, suc, ◌+◌, ◌<◌, ◌≤◌, Bool, true, false, ◌==◌, if◌then◌else◌, List, [], ◌∷◌, ◌++◌, append-nil, refl, sym, ◌∙◌, ap, subst, arith}
use Rattle.std.specs.Prelude.{Option, Some}
use Rattle.std.proofs.lemmas.Bool.Decides.{nat_tests}
use Rattle.cf_core.specs.Types.{SourceType}
use Rattle.cf_core.specs.Places.{Route, type_at}
use Rattle.cf_core.specs.Size.{size}
use Rattle.cf_core.specs.Store as source
use Rattle.cf_core.specs.Run.{State, upd}
use Rattle.cf_lower_layout.specs.Layout.{offset, leads}
use Rattle.cf_lower_layout.specs.Sorts.{Sort, sort_of}
use Rattle.cf_lower_layout.proofs.Parts.{scalar-alone}
use Rattle.cc_whole_memory.specs.declared.cells.Cell.TheVariants as cell
use Rattle.cc_whole_memory.specs.declared.store.Storage.TheVariants as storage
use Rattle.cc_whole_memory.specs.declared.value.Value.{Value}
use Rattle.cc_whole_memory.specs.Values.{bytes_of, size_of}
use Rattle.cc_whole_memory.specs.Cells.{Cells, put, load}
use Rattle.cc_whole_memory.specs.Blocks.{Block, Memory}
use Rattle.cc_whole_mean.specs.Flow.{born_holding, born_arguments}
use Rattle.cf_lower_relate.specs.Map.{Fixed, Map, Stage, hidden, shown, ended, Grows, Is, is_ended, is_hidden, is_shown, entered}
use Rattle.cf_lower_relate.specs.Relation.{Loads, Stands, Rel}
use Rattle.cf_lower_relate.specs.Scalars.{c_scalar}
use Rattle.cf_lower_relate.proofs.Births.{grows-entered, rel-entered}
use Rattle.cf_lower_relate.proofs.Cells.{load-same}
use Rattle.cf_lower_relate.proofs.Objects.{upd-same, upd-other, block-same, block-other, below-apart, rel-other}
use Rattle.cf_lower_relate.proofs.Sorts.{sort-eq, sort-bytes, sort-scalar, is-scalar, is-bytes}
use Rattle.cf_lower_relate.proofs.Values.{grows-same, grows-through, is-grows}
use Rattle.cf_lower_calls.specs.Evaluated.Arguments.{NotAmong, Differ, Passed, AllPassed, entered_all, StandIn, Enters}

pub hidden-live : (st : Stage) → is_hidden st ≡ true → is_ended st ≡ false
hidden-live hidden h = refl
hidden-live shown h = absurd (cc)
hidden-live ended h = absurd (cc)

some-value : {x y : source.Value} → Some x ≡ Some y → x ≡ y
some-value e = cc

apart-number : (o p : ℕ) → (o ≡ p → ⊥) → o == p ≡ false
apart-number o p ne = by_test (o == p) refl
  where
    by_test : (b : Bool) → o == p ≡ b → o == p ≡ false
    by_test false e = e
    by_test true e = absurd (ne (grind (arith, nat_tests, e)))

-- ---- one object

module _ (K : Fixed) (F : Map) (s : State) (m : Memory) (rel : Rel K F s m) (o : ℕ) (c : Value) (x : Passed K F s o c) where
  abbrev E : Map
  E = entered o m.next F

  abbrev blk : Block
  blk = record { storage = storage.Local; size = size_of c; cells = put c 0 (λ i. cell.Gone) }

  -- the block is new
  free : (p : ℕ) → p < F.count → is_ended (F.stage p) ≡ false → F.block p ≡ m.next → ⊥
  free p lp live e = let b = rel.below p lp live in omega (arith, b, e)

  rel-before : Rel K F s (born_holding c m)
  rel-before = rel-other K F s m rel (born_holding c m) (omega arith)
      (λ p lp live. block-other m.next (F.block p) (Some blk) m.block (below-apart m.next (F.block p) (rel.below p lp live)))

  typed : (s.object o).type ≡ F.type o
  typed = rel.type o x.known

  -- the value at the start of the block
  loads-there : (t : Sort) (v : source.Value) → sort_of (s.object o).type ≡ Some t → (s.object o).held [] ≡ Some v → Loads K E t v (load (c_scalar t) blk.cells 0)
  loads-there t v e held =
      let sort : x.sort ≡ t = sort-eq (sym x.typed ∙ ap sort_of (sym typed) ∙ e) in
      let value : x.value ≡ v = some-value (sym x.held ∙ held) in
      subst (λ a. Loads K E a v (load (c_scalar a) blk.cells 0)) sort
      (subst (λ a. Loads K E x.sort a (load (c_scalar x.sort) blk.cells 0)) value
      (record {
        value = c;
        is = load-same (c_scalar x.sort) c 0 (λ i. cell.Gone) (is-bytes K F x.sort x.value c x.same) ∙ is-scalar K F x.sort x.value c x.same;
        same = is-grows K F E (grows-entered F o m.next x.hidden) x.sort x.value c x.same;
      }))

  stands-new : Stands K E o (s.object o) (born_holding c m)
  stands-new = record {
    block = blk;
    there = ap (born_holding c m).block (upd-same o m.next F.block) ∙ block-same m.next (Some blk) m.block;
    size =
        let base = upd-same o 0 F.base in
        let bytes = sort-bytes K.classes (F.type o) x.sort x.typed in
        let same = is-bytes K F x.sort x.value c x.same in
        let type : size K.classes (s.object o).type ≡ size K.classes (F.type o) = ap (size K.classes) typed in
        omega (arith, base, bytes, same, type);
    cells = λ π t v l e held. in-cells π t v l e held (scalar-alone K.classes (s.object o).type π [] (ap (leads K.classes (s.object o).type) (append-nil π) ∙ l)
        (sort-scalar (s.object o).type x.sort (ap sort_of typed ∙ x.typed)));
  }
    where
      in-cells : (π : Route) (t : Sort) (v : source.Value) → leads K.classes (s.object o).type π ≡ true → sort_of (type_at K.classes (s.object o).type π) ≡ Some t
          → (s.object o).held π ≡ Some v → π ≡ [] → Loads K E t v (load (c_scalar t) blk.cells (E.base o + offset K.classes (s.object o).type π))
      in-cells π t v l e held empty =
          let start : 0 ≡ E.base o + offset K.classes (s.object o).type π =
          (let base = upd-same o 0 F.base in
          let none : offset K.classes (s.object o).type π ≡ 0 = ap (offset K.classes (s.object o).type) empty in
          omega (arith, base, none)) in
          subst (λ q. Loads K E t v (load (c_scalar t) blk.cells q)) start
          (loads-there t v (ap (λ ρ. sort_of (type_at K.classes (s.object o).type ρ)) (sym empty) ∙ e) (ap (s.object o).held (sym empty) ∙ held))

  pub rel-one : Rel K E s (born_holding c m)
  rel-one = rel-entered K F s (born_holding c m) rel-before o m.next x.hidden (omega arith) free stands-new

  -- another argument is passed still
  pub passed-still : (p : ℕ) (d : Value) → (p ≡ o → ⊥) → Passed K F s p d → Passed K E s p d
  passed-still p d ne y = record {
    known = y.known;
    hidden = ap is_hidden (upd-other o p shown F.stage (apart-number p o ne)) ∙ y.hidden;
    sort = y.sort;
    typed = y.typed;
    value = y.value;
    held = y.held;
    same = is-grows K F E (grows-entered F o m.next x.hidden) y.sort y.value d y.same;
  }

-- ---- all of them

module _ (K : Fixed) (s : State) where
  others-still : (F : Map) (m : Memory) (rel : Rel K F s m) (o : ℕ) (c : Value) (x : Passed K F s o c) (os : List ℕ) (cs : List Value) → NotAmong o os → AllPassed K F s os cs
      → AllPassed K (entered o m.next F) s os cs
  others-still F m rel o c x [] [] ne ys = tt
  others-still F m rel o c x [] (d ∷ ds) ne ys = absurd ys
  others-still F m rel o c x (p ∷ ps) [] ne ys = absurd ys
  others-still F m rel o c x (p ∷ ps) (d ∷ ds) ne ys =
      (passed-still K F s m rel o c x p d (λ e. ne.0 (sym e)) ys.0, others-still F m rel o c x ps ds ne.1 ys.1)

  -- what stands elsewhere
  stage-other : (os : List ℕ) (b : ℕ) (F : Map) (p : ℕ) → NotAmong p os → (entered_all os b F).stage p ≡ F.stage p
  stage-other [] b F p ne = refl
  stage-other (o ∷ os) b F p ne = stage-other os (suc b) (entered o b F) p ne.1 ∙ upd-other o p shown F.stage (apart-number p o ne.0)

  block-elsewhere : (os : List ℕ) (b : ℕ) (F : Map) (p : ℕ) → NotAmong p os → (entered_all os b F).block p ≡ F.block p
  block-elsewhere [] b F p ne = refl
  block-elsewhere (o ∷ os) b F p ne = block-elsewhere os (suc b) (entered o b F) p ne.1 ∙ upd-other o p b F.block (apart-number p o ne.0)

  base-other : (os : List ℕ) (b : ℕ) (F : Map) (p : ℕ) → NotAmong p os → (entered_all os b F).base p ≡ F.base p
  base-other [] b F p ne = refl
  base-other (o ∷ os) b F p ne = base-other os (suc b) (entered o b F) p ne.1 ∙ upd-other o p 0 F.base (apart-number p o ne.0)

  stand-in : (os : List ℕ) (b : ℕ) (F : Map) → Differ os → StandIn (entered_all os b F) os b
  stand-in [] b F d = tt
  stand-in (o ∷ os) b F d = (
    (
      block-elsewhere os (suc b) (entered o b F) o d.0 ∙ upd-same o b F.block,
      (
        base-other os (suc b) (entered o b F) o d.0 ∙ upd-same o 0 F.base,
        ap is_shown (stage-other os (suc b) (entered o b F) o d.0 ∙ upd-same o shown F.stage),
      ),
    ),
    stand-in os (suc b) (entered o b F) d.1,
  )

  pub enters : (os : List ℕ) (cs : List Value) (F : Map) (m : Memory) → Rel K F s m → Differ os → AllPassed K F s os cs → Enters K F s m os cs
  enters os cs F m rel d xs = record {
    grows = (run os cs F m rel d xs).0;
    rel = (run os cs F m rel d xs).1;
    stand = stand-in os m.next F d;
    stage = λ p ne. stage-other os m.next F p ne;
    block = λ p ne. block-elsewhere os m.next F p ne;
    base = λ p ne. base-other os m.next F p ne;
  }
    where
      run : (os : List ℕ) (cs : List Value) (F : Map) (m : Memory) → Rel K F s m → Differ os → AllPassed K F s os cs
          → Grows F (entered_all os m.next F) × Rel K (entered_all os m.next F) s (born_arguments cs m)
      run [] [] F m rel d xs = (grows-same F, rel)
      run [] (c ∷ cs) F m rel d xs = absurd xs
      run (o ∷ os) [] F m rel d xs = absurd xs
      run (o ∷ os) (c ∷ cs) F m rel d xs =
          let rest = run os cs (entered o m.next F) (born_holding c m) (rel-one K F s m rel o c xs.0) d.1 (others-still F m rel o c xs.0 os cs d.0 xs.1) in
          (grows-through F (entered o m.next F) (entered_all os (suc m.next) (entered o m.next F)) (grows-entered F o m.next xs.0.hidden) rest.0, rest.1)
