-- The numbers of types in what is written for an expression are there in the tables.
use Rattle.std.proofs.Common.{◌≡◌, ℕ, suc, Bool, true, false, ◌&&◌, List, [], ◌∷◌, ◌++◌, map, length, Option, Some, None, option_map, slice_get, refl, sym, subst, ◌∙◌}
use Rattle.std.specs.List.{list_all}
use Rattle.std.proofs.lemmas.List.Folds.{list_all-append}
use Rattle.cf_base.proofs.Tests.{both}
use Rattle.cf_types.specs.declared.ty.Ty.{Ty}
use Rattle.cf_types.specs.Table.{Names}
use Rattle.cf_core.specs.declared.node.Core.{Core as Node, roll-Core, ind-Core}
use Rattle.cf_core.specs.declared.node.Core.TheOpen.{Core-F}
use Rattle.cf_core.specs.declared.node.Core.TheFolds.{fold-roll-Core, map-Core, fold-roll-PartStart, map-PartStart}
use Rattle.cf_core.specs.declared.node.PartStart.{PartStart, PartStart-F, fold-PartStart, roll-PartStart}
use Rattle.cf_core.specs.declared.node.Holder.TheVariants as holder
use Rattle.cf_core.specs.FromTypes.{Tables}
use Rattle.cf_core.specs.Numbers.{has_type, has_class, has_member, has_step, has_part, all_of, maybe_of, known_step, known_part, are_known}
use Rattle.cf_plain.specs.declared.action.Action.TheVariants as action
use Rattle.cf_plain.specs.declared.action.Action.{Action}
use Rattle.cf_plain.specs.Numbers.{action_known}
use Rattle.cf_sequence_expr.specs.declared.writing.Writing.{Writing}
use Rattle.cf_sequence_expr.specs.Writes.{set}
use Rattle.cf_sequence_expr.specs.Parameters.{parameters_at}
use Rattle.cf_sequence_expr.specs.Pieces as pieces
use Rattle.cf_sequence_expr.specs.Pieces.{Piece, piece, part_piece, piece_step}
use Rattle.cf_sequence_written.proofs.Known.{KnownPiece, KnownAll, Keeps, Typed, typed-none, typed-then, typed-skipped, typed-temporary, keeps-temporary, keeps-none, keeps-then, keeps-set, keeps-act, keeps-used, keeps-within, keeps-two, keeps-truth, keeps-updated, keeps-stepped, keeps-stepped_behind, keeps-called, keeps-pointed, keeps-held, keeps-static_held, known-none, known-more, own-known, parameters-known, and-true}

module _ (tables : Tables) (names : (i : ℕ) (v : Ty) → slice_get tables.types.types i ≡ Some v → Names tables.types.funs i (length tables.types.funs) v) where
  abbrev part_known : PartStart → Bool
  part_known = fold-PartStart Bool Bool (known_step tables) (known_part tables)

  abbrev IsKnown : Node → Type 0
  IsKnown n = are_known tables n ≡ true → KnownPiece tables (piece tables.types n)

  abbrev IsPartKnown : PartStart → Type 0
  IsPartKnown p = part_known p ≡ true → KnownPiece tables (part_piece tables.types p)

  abbrev Child : Type 0
  Child = (n : Node) × IsKnown n

  abbrev PartChild : Type 0
  PartChild = (p : PartStart) × IsPartKnown p

  abbrev node_of : Child → Node
  node_of c = c.0

  abbrev part_of : PartChild → PartStart
  part_of c = c.0

  abbrev shape : Core-F Child PartChild → Core-F Node PartStart
  shape y = map-Core _ _ _ _ node_of part_of y

  abbrev known_of : Child → Bool
  known_of c = are_known tables c.0

  abbrev all_known : List Child → Bool
  all_known es = all_of tables (map (are_known tables) (map node_of es))

  abbrev maybe_known : Option Child → Bool
  maybe_known o = maybe_of tables (option_map (are_known tables) (option_map node_of o))

  row : (es : List Child) → all_known es ≡ true → KnownAll tables (map (piece tables.types) (map node_of es))
  row [] ok = known-none tables
  row (e ∷ es) ok = let parts = both (known_of e) (all_known es) ok in known-more tables (e.1 parts.0) (row es parts.1)

  part_row : (ps : List PartChild) → all_of tables (map part_known (map part_of ps)) ≡ true → KnownAll tables (map (part_piece tables.types) (map part_of ps))
  part_row [] ok = known-none tables
  part_row (p ∷ ps) ok =
      let parts = both (part_known p.0) (all_of tables (map part_known (map part_of ps))) ok in known-more tables (p.1 parts.0) (part_row ps parts.1)

  abbrev Locals : (List ℕ → List ℕ) → Type 0
  Locals f = (l : List ℕ) → list_all (has_type tables) l ≡ true → list_all (has_type tables) (f l) ≡ true

  either : (o : Option Child) → maybe_known o ≡ true → Locals (pieces.in_maybe (option_map (piece tables.types) (option_map node_of o)))
  either None ok = λ l good. good
  either (Some e) ok = KnownPiece.locals (e.1 ok)

  abbrev IsLayer : Core-F Node PartStart → Type 0
  IsLayer x = known_step tables (map-Core _ _ _ _ (are_known tables) part_known x) ≡ true
      → KnownPiece tables (piece_step tables.types (map-Core _ _ _ _ (piece tables.types) (part_piece tables.types) x))

  -- what writes no value
  silently : {f : List ℕ → List ℕ} → Locals f → KnownPiece tables (record { locals = f; value = pieces.silent; finds = pieces.find_none })
  silently p = record { value = λ x n. keeps-none tables; locals = p; finds = λ b. typed-none tables }

  set-known : {f : Writing → Writing} (n : ℕ) (a : Action) → action_known tables a ≡ true → Keeps tables f → Keeps tables (λ w. set n a (f w))
  set-known n a ok p = keeps-then tables p (keeps-set tables n a ok)

  alone : (n : ℕ) (a : Action) → action_known tables a ≡ true → Keeps tables (set n a)
  alone n a ok = keeps-set tables n a ok

  -- one operand, and an action on it
  single : (e : Child) (a : ℕ → Action) → ((n : ℕ) → action_known tables (a n) ≡ true) → known_of e ≡ true
      → KnownPiece tables (record { locals = (piece tables.types e.0).locals; value = λ x n w. set n (a n) ((piece tables.types e.0).value x n w); finds = (piece tables.types e.0).finds })
  single e a good ok = record { value = λ x n. set-known n (a n) (good n) ((e.1 ok).value x n); locals = (e.1 ok).locals; finds = λ b. (e.1 ok).finds b }

  both_locals : (a b : Child) → known_of a ≡ true → known_of b ≡ true → Locals (pieces.in_two (piece tables.types a.0) (piece tables.types b.0))
  both_locals a b p q = λ l good. (b.1 q).locals _ ((a.1 p).locals l good)

  -- the temporaries of two operands
  both_typed : (a b : Child) → known_of a ≡ true → known_of b ≡ true → (c : Bool) → Typed tables (pieces.find_two (piece tables.types a.0) (piece tables.types b.0) c)
  both_typed a b p q c = typed-then tables ((a.1 p).finds c) ((b.1 q).finds c)

  right_typed : (a b : Child) → known_of a ≡ true → known_of b ≡ true → (c : Bool) → Typed tables (pieces.find_right (piece tables.types a.0) (piece tables.types b.0) c)
  right_typed a b p q c = typed-then tables ((a.1 p).finds c) ((b.1 q).finds true)

  -- two operands, and an action on them
  double : (a b : Child) (act : ℕ → Action) → ((n : ℕ) → action_known tables (act n) ≡ true) → known_of a && known_of b ≡ true
      → KnownPiece tables (record {
        locals = pieces.in_two (piece tables.types a.0) (piece tables.types b.0);
        value = λ x n w. set n (act n) (pieces.two (piece tables.types a.0) (piece tables.types b.0) x n w);
        finds = pieces.find_two (piece tables.types a.0) (piece tables.types b.0);
      })
  double a b act good ok =
      let parts = both (known_of a) (known_of b) ok in
      record {
        value = λ x n. set-known n (act n) (good n) (keeps-two tables x n (a.1 parts.0) (b.1 parts.1));
        locals = both_locals a b parts.0 parts.1;
        finds = λ c. both_typed a b parts.0 parts.1 c;
      }

  called_locals : (t : ℕ) (o : Option Child) (es : List Child) → has_type tables t ≡ true → maybe_known o ≡ true → all_known es ≡ true
      → Locals (λ l. pieces.in_all (map (piece tables.types) (map node_of es)) (pieces.in_maybe (option_map (piece tables.types) (option_map node_of o)) (l ++ parameters_at tables.types t)))
  called_locals t o es there ok all = λ l good. (row es all).locals _ (either o ok _ (own-known tables names t there l good))

  layer : (y : Core-F Child PartChild) → IsLayer (shape y)
  layer (Core-F.Number at z) ok = record { value = λ x n. alone n (action.Number z) refl; locals = λ l good. good; finds = λ b. typed-none tables }
  layer (Core-F.Text at j bytes) ok = record { value = λ x n. alone n (action.Text j bytes) refl; locals = λ l good. good; finds = λ b. typed-none tables }
  layer (Core-F.This at) ok = silently (λ l good. good)
  layer (Core-F.Local at i) ok = record { value = λ x n. alone n (action.Local i) refl; locals = λ l good. good; finds = λ b. typed-none tables }
  layer (Core-F.Static at name t) ok = record { value = λ x n. alone n (action.Static name t) ok; locals = λ l good. good; finds = λ b. typed-none tables }
  layer (Core-F.Function at name t) ok = record { value = λ x n. alone n (action.Function name t) ok; locals = λ l good. good; finds = λ b. typed-none tables }
  layer (Core-F.DataPointer at i) ok = silently (λ l good. good)
  layer (Core-F.FunctionPointer at t) ok = silently (λ l good. good)
  layer (Core-F.Characters at bytes) ok = silently (λ l good. good)
  layer (Core-F.Zeros at) ok = silently (λ l good. good)
  layer (Core-F.Blank at) ok = silently (λ l good. good)
  layer (Core-F.Case at z) ok = silently (λ l good. good)
  layer (Core-F.Default at) ok = silently (λ l good. good)
  layer (Core-F.Break at) ok = silently (λ l good. good)
  layer (Core-F.Continue at) ok = silently (λ l good. good)
  layer (Core-F.Return at None) ok = silently (λ l good. good)
  layer (Core-F.Return at (Some e)) ok = silently (KnownPiece.locals (e.1 ok))
  layer (Core-F.Member at e i) ok = silently (KnownPiece.locals (e.1 ok))
  layer (Core-F.Each at e) ok = silently (KnownPiece.locals (e.1 ok))
  layer (Core-F.Full at e) ok = silently (KnownPiece.locals (e.1 ok))
  layer (Core-F.Once at name e) ok = silently (KnownPiece.locals (e.1 ok))
  layer (Core-F.Up at path e) ok = silently (KnownPiece.locals (e.1 (both (list_all (has_step tables) path) (known_of e) ok).1))
  layer (Core-F.Down at c path e) ok = silently (KnownPiece.locals (e.1 (both (has_class tables c && list_all (has_step tables) path) (known_of e) ok).1))
  layer (Core-F.ToMember at path e) ok = silently (KnownPiece.locals (e.1 (both (list_all (has_step tables) path) (known_of e) ok).1))
  layer (Core-F.New at t e) ok = silently (KnownPiece.locals (e.1 (both (has_type tables t) (known_of e) ok).1))
  layer (Core-F.Delete at t e) ok = silently (KnownPiece.locals (e.1 (both (has_type tables t) (known_of e) ok).1))
  layer (Core-F.DeleteArray at t e) ok = silently (KnownPiece.locals (e.1 (both (has_type tables t) (known_of e) ok).1))
  layer (Core-F.Declare at i t e) ok = silently (KnownPiece.locals (e.1 (both (has_type tables t) (known_of e) ok).1))
  layer (Core-F.Bind at holder.NoTemporary e) ok = let good = e.1 ok in record { value = λ x n. good.value x n; locals = good.locals; finds = λ b. good.finds b }
  layer (Core-F.Bind at (holder.LocalTemporary i t) e) ok =
      let parts = both (has_type tables t) (known_of e) ok in
      let good = e.1 parts.1 in
      record { value = λ x n. keeps-held tables i t x n parts.0 good; locals = good.locals; finds = λ b. good.finds b }
  layer (Core-F.Bind at (holder.StaticTemporary name) e) ok = let good = e.1 ok in record { value = λ x n. keeps-static_held tables name x n good; locals = good.locals; finds = λ b. good.finds b }
  layer (Core-F.Read at e) ok = single e (λ n. action.Read n) (λ n. refl) ok
  layer (Core-F.Address at e) ok = let good = e.1 ok in record { value = λ x n. keeps-then tables (good.value x n) (keeps-used tables n); locals = good.locals; finds = λ b. good.finds b }
  layer (Core-F.Dereference at e) ok = single e (λ n. action.Dereference n) (λ n. refl) ok
  layer (Core-F.Decay at e) ok = single e (λ n. action.Decay n) (λ n. refl) ok
  layer (Core-F.Convert at t e) ok = let parts = both (has_type tables t) (known_of e) ok in single e (λ n. action.Convert t n) (λ n. parts.0) parts.1
  layer (Core-F.FromVoid at t e) ok = let parts = both (has_type tables t) (known_of e) ok in single e (λ n. action.FromVoid t n) (λ n. parts.0) parts.1
  layer (Core-F.Unary at op k e) ok = single e (λ n. action.Unary op k n) (λ n. refl) ok
  layer (Core-F.Not at e) ok = single e (λ n. action.Not n) (λ n. refl) ok
  layer (Core-F.Increment at false c e) ok = let good = e.1 ok in record { value = λ x n. keeps-then tables (good.value x n) (keeps-stepped tables c n); locals = good.locals; finds = λ b. good.finds b }
  layer (Core-F.Increment at true c e) ok = let good = e.1 ok in record { value = λ x n. keeps-then tables (good.value x (suc n)) (keeps-stepped_behind tables c n); locals = good.locals; finds = λ b. good.finds b }
  layer (Core-F.Index at a b) ok = double a b (λ n. action.Index n (suc n)) (λ n. refl) ok
  layer (Core-F.Operate at op k a b) ok = double a b (λ n. action.Operate op k n (suc n)) (λ n. refl) ok
  layer (Core-F.PointerOperate at op a b) ok = double a b (λ n. action.PointerOperate op n (suc n)) (λ n. refl) ok
  layer (Core-F.Through at a b) ok = let parts = both (known_of a) (known_of b) ok in silently (both_locals a b parts.0 parts.1)
  layer (Core-F.Store at a b) ok =
      let parts = both (known_of a) (known_of b) ok in
      record {
        value = λ x n. keeps-then tables (keeps-two tables x n (a.1 parts.0) (b.1 parts.1)) (keeps-act tables (action.Store n (suc n)) refl);
        locals = both_locals a b parts.0 parts.1;
        finds = λ c. both_typed a b parts.0 parts.1 c;
      }
  layer (Core-F.Update at a c b) ok =
      let parts = both (known_of a) (known_of b) ok in
      record {
        value = λ x n. keeps-then tables (keeps-two tables x n (a.1 parts.0) (b.1 parts.1)) (keeps-updated tables c n);
        locals = both_locals a b parts.0 parts.1;
        finds = λ c. both_typed a b parts.0 parts.1 c;
      }
  layer (Core-F.And at a b) ok =
      let parts = both (known_of a) (known_of b) ok in
      record {
        value = λ x n. keeps-then tables (keeps-truth tables x n (a.1 parts.0)) (keeps-within tables n (keeps-truth tables x n (b.1 parts.1)) (keeps-none tables));
        locals = both_locals a b parts.0 parts.1;
        finds = λ c. right_typed a b parts.0 parts.1 c;
      }
  layer (Core-F.Or at a b) ok =
      let parts = both (known_of a) (known_of b) ok in
      record {
        value = λ x n. keeps-then tables (keeps-truth tables x n (a.1 parts.0)) (keeps-within tables n (keeps-none tables) (keeps-truth tables x n (b.1 parts.1)));
        locals = both_locals a b parts.0 parts.1;
        finds = λ c. right_typed a b parts.0 parts.1 c;
      }
  layer (Core-F.Conditional at c a b) ok =
      let parts = both (known_of c && known_of a) (known_of b) ok in
      let first = both (known_of c) (known_of a) parts.0 in
      record {
        value = λ x n. keeps-then tables (keeps-truth tables x n (c.1 first.0)) (keeps-within tables n ((a.1 first.1).value x n) ((b.1 parts.1).value x n));
        locals = λ l good. (b.1 parts.1).locals _ (both_locals c a first.0 first.1 l good);
        finds = λ d. typed-then tables ((c.1 first.0).finds d) (typed-then tables ((a.1 first.1).finds true) ((b.1 parts.1).finds true));
      }
  layer (Core-F.NewArray at t a b) ok =
      let parts = both (has_type tables t && known_of a) (known_of b) ok in
      silently (both_locals a b (both (has_type tables t) (known_of a) parts.0).1 parts.1)
  layer (Core-F.Comma at es) ok = let all = row es ok in record { value = λ x n. all.values x n; locals = all.locals; finds = λ b. all.finds b }
  layer (Core-F.Block at es) ok = silently (KnownAll.locals (row es ok))
  layer (Core-F.Sequence at es) ok = silently (KnownAll.locals (row es ok))
  layer (Core-F.Assign at t a b es) ok =
      let parts = both (has_type tables t && known_of a && known_of b) (all_known es) ok in
      let two = both (has_type tables t && known_of a) (known_of b) parts.0 in
      silently (λ l good. (row es parts.1).locals _ (both_locals a b (both (has_type tables t) (known_of a) two.0).1 two.1 l good))
  layer (Core-F.Temporary at t e) ok =
      let parts = both (has_type tables t) (known_of e) ok in
      let one = e.1 parts.1 in
      record {
        value = λ x n. keeps-temporary tables t x n parts.0 one;
        locals = λ l good. one.locals _ (list_all-append (has_type tables) l (t ∷ []) ∙ and-true (list_all (has_type tables) l) _ good (and-true (has_type tables t) true parts.0 refl));
        finds = λ b. typed-temporary tables t b parts.0 one;
      }
  layer (Core-F.Call at name t None es) ok =
      let parts = both (has_type tables t && true) (all_known es) ok in
      let there = (both (has_type tables t) true parts.0).0 in
      record {
        value = λ x n. keeps-called tables name t (parameters_at tables.types t) x n there (parameters-known tables names t there) (row es parts.1);
        locals = called_locals t None es there refl parts.1;
        finds = λ b. typed-then tables (typed-skipped tables (length (parameters_at tables.types t))) (KnownAll.finds (row es parts.1) b);
      }
  layer (Core-F.Call at name t (Some o) es) ok =
      let parts = both (has_type tables t && known_of o) (all_known es) ok in
      let two = both (has_type tables t) (known_of o) parts.0 in
      record { value = λ x n. keeps-none tables; locals = called_locals t (Some o) es two.0 two.1 parts.1; finds = λ b. typed-none tables }
  layer (Core-F.VirtualCall at m t e es) ok =
      let parts = both (has_member tables m && has_type tables t && known_of e) (all_known es) ok in
      let two = both (has_member tables m && has_type tables t) (known_of e) parts.0 in
      silently (called_locals t (Some e) es (both (has_member tables m) (has_type tables t) two.0).1 two.1 parts.1)
  layer (Core-F.PointerCall at None e t es) ok =
      let parts = both (true && known_of e && has_type tables t) (all_known es) ok in
      let two = both (known_of e) (has_type tables t) parts.0 in
      record {
        value = λ x n. keeps-pointed tables t (parameters_at tables.types t) x n two.1 (parameters-known tables names t two.1) (e.1 two.0) (row es parts.1);
        locals = λ l good. (row es parts.1).locals _ ((e.1 two.0).locals _ (own-known tables names t two.1 l good));
        finds = λ b.
            typed-then tables (typed-skipped tables (length (parameters_at tables.types t))) (typed-then tables (KnownPiece.finds (e.1 two.0) b) (KnownAll.finds (row es parts.1) b));
      }
  layer (Core-F.PointerCall at (Some o) e t es) ok =
      let parts = both (known_of o && known_of e && has_type tables t) (all_known es) ok in
      let two = both (known_of o && known_of e) (has_type tables t) parts.0 in
      let three = both (known_of o) (known_of e) two.0 in
      record {
        value = λ x n. keeps-none tables;
        locals = λ l good. (row es parts.1).locals _ ((e.1 three.1).locals _ ((o.1 three.0).locals _ (own-known tables names t two.1 l good)));
        finds = λ b. typed-none tables;
      }
  layer (Core-F.Build at name t es) ok =
      let parts = both (has_type tables t) (all_known es) ok in silently (λ l good. (row es parts.1).locals _ (own-known tables names t parts.0 l good))
  layer (Core-F.Copy at t e es) ok =
      let parts = both (has_type tables t && known_of e) (all_known es) ok in
      silently (λ l good. (row es parts.1).locals _ ((e.1 (both (has_type tables t) (known_of e) parts.0).1).locals l good))
  layer (Core-F.List at es e) ok = let parts = both (all_known es) (known_of e) ok in silently (λ l good. (e.1 parts.1).locals _ ((row es parts.0).locals l good))
  layer (Core-F.If at c a None) ok =
      let parts = both (known_of c && known_of a) true ok in let two = both (known_of c) (known_of a) parts.0 in silently (both_locals c a two.0 two.1)
  layer (Core-F.If at c a (Some b)) ok =
      let parts = both (known_of c && known_of a) (known_of b) ok in
      let two = both (known_of c) (known_of a) parts.0 in
      silently (λ l good. (b.1 parts.1).locals _ (both_locals c a two.0 two.1 l good))
  layer (Core-F.Loop at how None None s) ok = silently (KnownPiece.locals (s.1 ok))
  layer (Core-F.Loop at how None (Some e) s) ok = let parts = both (known_of e) (known_of s) ok in silently (both_locals e s parts.0 parts.1)
  layer (Core-F.Loop at how (Some c) None s) ok =
      let parts = both (known_of c && true) (known_of s) ok in silently (both_locals c s (both (known_of c) true parts.0).0 parts.1)
  layer (Core-F.Loop at how (Some c) (Some e) s) ok =
      let parts = both (known_of c && known_of e) (known_of s) ok in
      let two = both (known_of c) (known_of e) parts.0 in
      silently (λ l good. (s.1 parts.1).locals _ (both_locals c e two.0 two.1 l good))
  layer (Core-F.Switch at e es) ok = let parts = both (known_of e) (all_known es) ok in silently (λ l good. (row es parts.1).locals _ ((e.1 parts.0).locals l good))
  layer (Core-F.Parts at ps s) ok =
      let parts = both (all_of tables (map part_known (map part_of ps))) (known_of s) ok in
      silently (λ l good. (s.1 parts.1).locals _ ((part_row ps parts.0).locals l good))

  rolled : (x : Core-F Node PartStart) → IsLayer x → IsKnown (roll-Core x)
  rolled x p ok =
      subst (KnownPiece tables) (sym (fold-roll-Core Piece Piece (piece_step tables.types) (pieces.part_step tables.types) x))
      (p (sym (fold-roll-Core Bool Bool (known_step tables) (known_part tables) x) ∙ ok))

  part_layer : (y : PartStart-F Child PartChild) → IsPartKnown (roll-PartStart (map-PartStart _ _ _ _ node_of part_of y))
  part_layer y ok =
      let x : PartStart-F Node PartStart = map-PartStart _ _ _ _ node_of part_of y in
      subst (KnownPiece tables) (sym (fold-roll-PartStart Piece Piece (piece_step tables.types) (pieces.part_step tables.types) x))
      (y.start.1 (both (has_part tables y.part) (known_of y.start) (sym (fold-roll-PartStart Bool Bool (known_step tables) (known_part tables) x) ∙ ok)).1)

  pub known-piece : (n : Node) → are_known tables n ≡ true → KnownPiece tables (piece tables.types n)
  known-piece = ind-Core IsKnown IsPartKnown
      (λ x y is. subst (λ z. IsKnown (roll-Core z)) is (rolled (shape y) (layer y)))
      (λ x y is. subst (λ z. IsPartKnown (roll-PartStart z)) is (part_layer y))
