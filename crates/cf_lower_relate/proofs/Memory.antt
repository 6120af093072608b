-- Scalars are read and written in both.
use Rattle.std.proofs.Common.{◌≡◌, ℕ, ◌+◌, ◌≤◌, ◌<◌, nat_le, Bool, true, false, if◌then◌else◌, Some, Ok, Err, refl, sym, ◌∙◌, ap, subst, arith, ◌⊎◌, inl, inr}
use Rattle.std.proofs.lemmas.Bool.Decides.{nat_tests}
use Rattle.cf_core.specs.Places.{Route, Place, type_at, route_eq}
use Rattle.cf_core.specs.Store as source
use Rattle.cf_core.specs.Store.{Object, hold}
use Rattle.cf_core.specs.Run.{State, with_object}
use Rattle.cf_core.specs.Size.{size}
use Rattle.cf_lower_layout.specs.Layout.{offset, leads, Apart}
use Rattle.cf_lower_layout.specs.Sorts.{Sort, sort_of}
use Rattle.cf_lower_layout.proofs.Parts.{route-inside, scalars-placed, same-route, route-self}
use Rattle.cc_whole_memory.specs.declared.value.Value.{Value}
use Rattle.cc_whole_memory.specs.Values.{bytes_of, size_of}
use Rattle.cc_whole_memory.specs.Cells.{Cells, put, load}
use Rattle.cc_whole_memory.specs.Blocks as blocks
use Rattle.cc_whole_memory.specs.Blocks.{Block, Memory, put_block, inside, reached, on_ok, value_or_act, read, write, with_cells}
use Rattle.cf_lower_relate.specs.Scalars.{c_scalar}
use Rattle.cf_lower_relate.specs.Map.{Fixed, Map, Is, is_ended, offset_of, pointer_to, type_of_place}
use Rattle.cf_lower_relate.specs.Relation.{Loads, InCells, Stands, Rel, Reads, Writes}
use Rattle.cf_lower_relate.proofs.Cells.{load-same, load-apart}
use Rattle.cf_lower_relate.proofs.Objects.{rel-changed, block-same, block-other}
use Rattle.cf_lower_relate.proofs.Sorts.{bytes-some, sort-eq, sort-bytes, sort-scalar, is-scalar, is-bytes}

module _ (K : Fixed) where
  -- the object's own route, changed
  held-same : (π : Route) (v : source.Value) (x : Object) (ρ : Route) (w : source.Value) → route_eq ρ π ≡ true → (hold π (Some v) x).held ρ ≡ Some w → v ≡ w
  held-same π v x ρ w t e = some-eq (sym (ap (λ b. if b then Some v else x.held ρ) t) ∙ e)
    where
      some-eq : Some v ≡ Some w → v ≡ w
      some-eq h = cc

  held-other : (π : Route) (v : source.Value) (x : Object) (ρ : Route) → route_eq ρ π ≡ false → (hold π (Some v) x).held ρ ≡ x.held ρ
  held-other π v x ρ t = ap (λ b. if b then Some v else x.held ρ) t

  module _ (F : Map) (x : Object) (n : ℕ) (cells : Cells) (h : InCells K F x n cells) (π : Route) (t : Sort) (v : source.Value) (c : Value)
      (l : leads K.classes x.type π ≡ true) (e : sort_of (type_at K.classes x.type π) ≡ Some t) (is : Is K F t v c) where
    here : (ρ : Route) (u : Sort) (w : source.Value) → sort_of (type_at K.classes x.type ρ) ≡ Some u → ρ ≡ π → v ≡ w
        → Loads K F u w (load (c_scalar u) (put c (n + offset K.classes x.type π) cells) (n + offset K.classes x.type ρ))
    here ρ u w k same value =
        let sorts : t ≡ u = sort-eq (sym e ∙ ap (λ r. sort_of (type_at K.classes x.type r)) (sym same) ∙ k) in
        subst (λ r. Loads K F u w (load (c_scalar u) (put c (n + offset K.classes x.type π) cells) (n + offset K.classes x.type r))) (sym same)
        (subst (λ u. Loads K F u w (load (c_scalar u) (put c (n + offset K.classes x.type π) cells) (n + offset K.classes x.type π))) sorts
        (subst (λ w. Loads K F t w (load (c_scalar t) (put c (n + offset K.classes x.type π) cells) (n + offset K.classes x.type π))) value
        (record {
          value = c;
          is = load-same (c_scalar t) c (n + offset K.classes x.type π) cells (is-bytes K F t v c is) ∙ is-scalar K F t v c is;
          same = is;
        })))

    there : (ρ : Route) (u : Sort) (w : source.Value) → sort_of (type_at K.classes x.type ρ) ≡ Some u
        → Apart (offset K.classes x.type ρ) (size K.classes (type_at K.classes x.type ρ)) (offset K.classes x.type π) (size K.classes (type_at K.classes x.type π))
        → Loads K F u w (load (c_scalar u) cells (n + offset K.classes x.type ρ))
        → Loads K F u w (load (c_scalar u) (put c (n + offset K.classes x.type π) cells) (n + offset K.classes x.type ρ))
    there ρ u w k a old =
        let one = sort-bytes K.classes (type_at K.classes x.type ρ) u k in
        let two = sort-bytes K.classes (type_at K.classes x.type π) t e in
        let bytes = is-bytes K F t v c is in
        record {
          value = old.value;
          is = load-apart (c_scalar u) c (n + offset K.classes x.type π) (n + offset K.classes x.type ρ) cells
              (let some = bytes-some t in omega (arith, some, bytes)) (bytes-some u) (far one two bytes a) ∙ old.is;
          same = old.same;
        }
      where
        far : size K.classes (type_at K.classes x.type ρ) ≡ bytes_of (c_scalar u) → size K.classes (type_at K.classes x.type π) ≡ bytes_of (c_scalar t) → size_of c ≡ bytes_of (c_scalar t)
            → Apart (offset K.classes x.type ρ) (size K.classes (type_at K.classes x.type ρ)) (offset K.classes x.type π) (size K.classes (type_at K.classes x.type π))
            → Apart (n + offset K.classes x.type ρ) (bytes_of (c_scalar u)) (n + offset K.classes x.type π) (size_of c)
        far one two bytes (inl le) = inl (omega (arith, one, two, bytes, le))
        far one two bytes (inr le) = inr (omega (arith, one, two, bytes, le))

    -- the cells with the value stored hold the changed object
    cells-written : InCells K F (hold π (Some v) x) n (put c (n + offset K.classes x.type π) cells)
    cells-written ρ u w lr k holds = by_test (route_eq ρ π) refl
      where
        elsewhere : route_eq ρ π ≡ false
            → (ρ ≡ π) ⊎ Apart (offset K.classes x.type ρ) (size K.classes (type_at K.classes x.type ρ)) (offset K.classes x.type π) (size K.classes (type_at K.classes x.type π))
            → Loads K F u w (load (c_scalar u) (put c (n + offset K.classes x.type π) cells) (n + offset K.classes x.type ρ))
        elsewhere f (inl same) = absurd (false-true (sym f ∙ ap (λ r. route_eq r π) same ∙ route-self π))
          where
            false-true : false ≡ true → ⊥
            false-true q = absurd (cc)
        elsewhere f (inr a) = there ρ u w k a (h ρ u w lr k (sym (held-other π v x ρ f) ∙ holds))

        by_test : (b : Bool) → route_eq ρ π ≡ b
            → Loads K F u w (load (c_scalar u) (put c (n + offset K.classes x.type π) cells) (n + offset K.classes x.type ρ))
        by_test true q = here ρ u w k (same-route ρ π q) (held-same π v x ρ w q holds)
        by_test false q =
            elsewhere q (scalars-placed K.classes x.type ρ π lr l (sort-scalar (type_at K.classes x.type ρ) u k) (sort-scalar (type_at K.classes x.type π) t e))

  module _ (F : Map) (s : State) (m : Memory) (r : Rel K F s m) (p : Place) (t : Sort)
      (known : p.object < F.count) (live : is_ended (F.stage p.object) ≡ false)
      (l : leads K.classes (F.type p.object) p.route ≡ true) (e : sort_of (type_of_place K F p) ≡ Some t) where
    typed : (s.object p.object).type ≡ F.type p.object
    typed = r.type p.object known

    abbrev pub stands : Stands K F p.object (s.object p.object) m
    stands = r.stands p.object known live

    leads-there : leads K.classes (s.object p.object).type p.route ≡ true
    leads-there = ap (λ u. leads K.classes u p.route) typed ∙ l

    sort-there : sort_of (type_at K.classes (s.object p.object).type p.route) ≡ Some t
    sort-there = ap (λ u. sort_of (type_at K.classes u p.route)) typed ∙ e

    inside-there : offset_of K F p + bytes_of (c_scalar t) ≤ stands.block.size
    inside-there =
        let inner = route-inside K.classes (F.type p.object) p.route l in
        let outer = subst (λ u. F.base p.object + size K.classes u ≤ stands.block.size) typed stands.size in
        let bytes = sort-bytes K.classes (type_of_place K F p) t e in
        omega (arith, inner, outer, bytes)

    -- the bytes of the scalar are reached
    pub reached-there : (n : ℕ) → n ≡ bytes_of (c_scalar t)
        → reached (pointer_to K F p) n m ≡ Ok (record { number = F.block p.object; offset = offset_of K F p; block = stands.block })
    reached-there n is =
        ap (inside (F.block p.object) (offset_of K F p) n) stands.there
        ∙ ap (λ b. if b then Ok (record { number = F.block p.object; offset = offset_of K F p; block = stands.block }) else Err blocks.outside)
        (let le = inside-there in let q : nat_le (offset_of K F p + n) stands.block.size ≡ true = grind (arith, nat_tests, le, is) in q)

    pub read-place : (v : source.Value) → (s.object p.object).held p.route ≡ Some v → Reads K F t v (read (c_scalar t) (pointer_to K F p) m)
    read-place v held =
        let found = stands.cells p.route t v leads-there sort-there held in
        record {
          value = found.value;
          is = ap (λ a. on_ok a (λ at. value_or_act (load (c_scalar t) at.block.cells at.offset))) (reached-there (bytes_of (c_scalar t)) refl)
              ∙ ap (λ u. value_or_act (load (c_scalar t) stands.block.cells (F.base p.object + offset K.classes u p.route))) (sym typed)
              ∙ ap value_or_act found.is;
          same = found.same;
        }

    pub write-place : (v : source.Value) (c : Value) → Is K F t v c
        → Writes K F (with_object p.object (hold p.route (Some v)) s) (F.block p.object) m (write (pointer_to K F p) c m)
    write-place v c is =
        let place : blocks.Place = record { number = F.block p.object; offset = offset_of K F p; block = stands.block } in
        record {
          after = with_cells place (put c (offset_of K F p) stands.block.cells) m;
          is = ap (λ a. on_ok a (λ at. Ok (with_cells at (put c at.offset at.block.cells) m))) (reached-there (size_of c) (is-bytes K F t v c is));
          rel = rel-changed K F s m r p.object (hold p.route (Some v) (s.object p.object))
              (Some (record stands.block { cells = put c (offset_of K F p) stands.block.cells })) known live typed (r.gone p.object known ∙ live)
              (record {
                block = record stands.block { cells = put c (offset_of K F p) stands.block.cells };
                there = block-same (F.block p.object) (Some (record stands.block { cells = put c (offset_of K F p) stands.block.cells })) m.block;
                size = stands.size;
                cells = subst (λ u. InCells K F (hold p.route (Some v) (s.object p.object)) (F.base p.object)
                    (put c (F.base p.object + offset K.classes u p.route) stands.block.cells)) typed
                    (cells-written F (s.object p.object) (F.base p.object) stands.block.cells stands.cells p.route t v c leads-there sort-there is);
              });
          next = refl;
          elsewhere = λ b ne. block-other (F.block p.object) b (Some (record stands.block { cells = put c (offset_of K F p) stands.block.cells })) m.block ne;
        }
