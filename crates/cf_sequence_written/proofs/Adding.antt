-- The locals that the code adds for a tree are those of the definition.
use Rattle.std.proofs.Common.{◌≡◌, ℕ, List, [], ◌∷◌, ◌++◌, map, length, Option, Some, None, option_map, ap, sym, subst, ◌∙◌, append_assoc}
use Rattle.std.proofs.lemmas.List.{map-append, length-map, append-nil}
use Rattle.std.proofs.lemmas.Grind.{flat_map-append}
use Rattle.cf_classes.specs.declared.class.MemberRef.{MemberRef}
use Rattle.cf_core.specs.declared.node.Core.{Core as Node, roll-Core, ind-Core}
use Rattle.cf_core.specs.declared.node.Core.TheOpen.{Core-F}
use Rattle.cf_core.specs.declared.node.Core.TheFolds.{fold-roll-Core, map-Core, fold-roll-PartStart, map-PartStart}
use Rattle.cf_core.specs.declared.node.PartStart.{PartStart, PartStart-F, fold-PartStart, roll-PartStart}
use Rattle.cf_core.specs.Types.{Name, SourceType, parameters}
use Rattle.cf_core.specs.Core.{Core}
use Rattle.cf_core.specs.Nodes.{nodes, nodes_all, nodes_maybe, nodes_parts}
use Rattle.cf_core.specs.FromTypes.{Tables, type_of}
use Rattle.cf_core.specs.View.{Started, core_step, started_step, core_of, listed, maybe, in_order}
use Rattle.cf_sequence.specs.Made.{makes, added, width}
use Rattle.cf_sequence_expr.specs.Parameters.{parameters_at}
use Rattle.cf_sequence_expr.specs.Pieces as pieces
use Rattle.cf_sequence_expr.specs.Pieces.{Piece, piece, part_piece, piece_step, in_two, in_all, in_maybe}

module _ (tables : Tables) where
  -- a list of types goes on by these
  pub record Adds (f : List ℕ → List ℕ) (ts : List SourceType) : Type 0 where
    pub adds : (l : List ℕ) → map (type_of tables) (f l) ≡ map (type_of tables) l ++ ts

  adds-none : Adds (λ l. l) []
  adds-none = record { adds = λ l. sym (append-nil (map (type_of tables) l)) }

  adds-own : (ps : List ℕ) → Adds (λ l. l ++ ps) (map (type_of tables) ps)
  adds-own ps = record { adds = λ l. map-append (type_of tables) l ps }

  adds-then : {f g : List ℕ → List ℕ} {ts us : List SourceType} → Adds f ts → Adds g us → Adds (λ l. g (f l)) (ts ++ us)
  adds-then {f} {g} {ts} {us} p q = record { adds = λ l. q.adds (f l) ∙ ap (λ z. z ++ us) (p.adds l) ∙ append_assoc (map (type_of tables) l) ts us }

  adds-as : {f : List ℕ → List ℕ} {ts us : List SourceType} → Adds f ts → ts ≡ us → Adds f us
  adds-as {f} p same = subst (Adds f) same p

  -- nodes behind nodes
  adds-more : {f g : List ℕ → List ℕ} (ms ns : List Core) → Adds f (added ms) → Adds g (added ns) → Adds (λ l. g (f l)) (added (ms ++ ns))
  adds-more ms ns p q = adds-as (adds-then p q) (sym (flat_map-append makes ms ns))

  module _ (signature : MemberRef → Name) (params : (t : ℕ) → map (type_of tables) (parameters_at tables.types t) ≡ parameters (type_of tables t)) where
    abbrev IsAdding : Node → Type 0
    IsAdding n = Adds (piece tables.types n).locals (added (nodes (core_of tables signature n)))

    abbrev started_of : PartStart → Started
    started_of = fold-PartStart Core Started (core_step tables signature) (started_step tables signature)

    abbrev IsPartAdding : PartStart → Type 0
    IsPartAdding p = Adds (part_piece tables.types p).locals (added (nodes (started_of p).start))

    abbrev Child : Type 0
    Child = (n : Node) × IsAdding n

    abbrev PartChild : Type 0
    PartChild = (p : PartStart) × IsPartAdding p

    abbrev node_of : Child → Node
    node_of c = c.0

    abbrev part_of : PartChild → PartStart
    part_of c = c.0

    abbrev shape : Core-F Child PartChild → Core-F Node PartStart
    shape y = map-Core _ _ _ _ node_of part_of y

    row : (es : List Child) → Adds (in_all (map (piece tables.types) (map node_of es))) (added (nodes_all (listed (map (core_of tables signature) (map node_of es)))))
    row [] = adds-none
    row (e ∷ es) = adds-more (nodes (core_of tables signature e.0)) (nodes_all (listed (map (core_of tables signature) (map node_of es)))) e.1 (row es)

    part_row : (es : List PartChild) → Adds (in_all (map (part_piece tables.types) (map part_of es))) (added (nodes_parts (in_order (map started_of (map part_of es)))))
    part_row [] = adds-none
    part_row (e ∷ es) = adds-more (nodes (started_of e.0).start) (nodes_parts (in_order (map started_of (map part_of es)))) e.1 (part_row es)

    either : (e : Option Child) → Adds (in_maybe (option_map (piece tables.types) (option_map node_of e))) (added (nodes_maybe (maybe (option_map (core_of tables signature) (option_map node_of e)))))
    either None = adds-none
    either (Some e) = e.1

    two : (a b : Child) → Adds (in_two (piece tables.types a.0) (piece tables.types b.0)) (added (nodes (core_of tables signature a.0) ++ nodes (core_of tables signature b.0)))
    two a b = adds-more (nodes (core_of tables signature a.0)) (nodes (core_of tables signature b.0)) a.1 b.1

    -- the objects of a function's parameters
    own : (t : ℕ) → Adds (λ l. l ++ parameters_at tables.types t) (parameters (type_of tables t))
    own t = adds-as (adds-own (parameters_at tables.types t)) (params t)

    abbrev IsLayer : Core-F Node PartStart → Type 0
    IsLayer x =
        Adds (Piece.locals (piece_step tables.types (map-Core _ _ _ _ (piece tables.types) (part_piece tables.types) x)))
        (added (nodes (core_step tables signature (map-Core _ _ _ _ (core_of tables signature) started_of x))))

    abbrev list_of : List Child → List Core
    list_of es = nodes_all (listed (map (core_of tables signature) (map node_of es)))

    abbrev maybe_of : Option Child → List Core
    maybe_of e = nodes_maybe (maybe (option_map (core_of tables signature) (option_map node_of e)))

    abbrev nodes_of : Child → List Core
    nodes_of e = nodes (core_of tables signature e.0)

    called : (t : ℕ) (o : Option Child) (es : List Child)
        → Adds (λ l. in_all (map (piece tables.types) (map node_of es)) (in_maybe (option_map (piece tables.types) (option_map node_of o)) (l ++ parameters_at tables.types t)))
        (parameters (type_of tables t) ++ added (maybe_of o ++ list_of es))
    called t o es = adds-then (own t) (adds-more (maybe_of o) (list_of es) (either o) (row es))

    pointer_called : (t : ℕ) (o : Option Child) (e : Child) (es : List Child)
        → Adds (λ l. in_all (map (piece tables.types) (map node_of es)) ((piece tables.types e.0).locals (in_maybe (option_map (piece tables.types) (option_map node_of o)) (l ++ parameters_at tables.types t))))
        (parameters (type_of tables t) ++ added (maybe_of o ++ nodes_of e ++ list_of es))
    pointer_called t o e es =
        adds-then (own t) (adds-more (maybe_of o ++ nodes_of e) (list_of es) (adds-more (maybe_of o) (nodes_of e) (either o) e.1) (row es))

    chosen : (q a : Child) (o : Option Child)
        → Adds (λ l. in_maybe (option_map (piece tables.types) (option_map node_of o)) (in_two (piece tables.types q.0) (piece tables.types a.0) l)) (added (nodes_of q ++ nodes_of a ++ maybe_of o))
    chosen q a o = adds-more (nodes_of q ++ nodes_of a) (maybe_of o) (two q a) (either o)

    looped : (q e : Option Child) (s : Child)
        → Adds (λ l. (piece tables.types s.0).locals (in_maybe (option_map (piece tables.types) (option_map node_of e)) (in_maybe (option_map (piece tables.types) (option_map node_of q)) l)))
        (added (maybe_of q ++ maybe_of e ++ nodes_of s))
    looped q e s = adds-more (maybe_of q ++ maybe_of e) (nodes_of s) (adds-more (maybe_of q) (maybe_of e) (either q) (either e)) s.1

    layer : (y : Core-F Child PartChild) → IsLayer (shape y)
    layer (Core-F.Number at z) = adds-none
    layer (Core-F.Text at j bytes) = adds-none
    layer (Core-F.This at) = adds-none
    layer (Core-F.Local at i) = adds-none
    layer (Core-F.Static at n t) = adds-none
    layer (Core-F.Function at n t) = adds-none
    layer (Core-F.DataPointer at i) = adds-none
    layer (Core-F.FunctionPointer at t) = adds-none
    layer (Core-F.Characters at bytes) = adds-none
    layer (Core-F.Zeros at) = adds-none
    layer (Core-F.Blank at) = adds-none
    layer (Core-F.Case at z) = adds-none
    layer (Core-F.Default at) = adds-none
    layer (Core-F.Break at) = adds-none
    layer (Core-F.Continue at) = adds-none
    layer (Core-F.Return at None) = adds-none
    layer (Core-F.Return at (Some e)) = e.1
    layer (Core-F.Member at e i) = e.1
    layer (Core-F.Read at e) = e.1
    layer (Core-F.Address at e) = e.1
    layer (Core-F.Dereference at e) = e.1
    layer (Core-F.Decay at e) = e.1
    layer (Core-F.Convert at t e) = e.1
    layer (Core-F.Up at path e) = e.1
    layer (Core-F.Down at c path e) = e.1
    layer (Core-F.FromVoid at t e) = e.1
    layer (Core-F.ToMember at path e) = e.1
    layer (Core-F.Unary at op k e) = e.1
    layer (Core-F.Not at e) = e.1
    layer (Core-F.Increment at is_postfix c e) = e.1
    layer (Core-F.New at t e) = e.1
    layer (Core-F.Delete at t e) = e.1
    layer (Core-F.DeleteArray at t e) = e.1
    layer (Core-F.Each at e) = e.1
    layer (Core-F.Full at e) = e.1
    layer (Core-F.Declare at i t e) = e.1
    layer (Core-F.Once at n e) = e.1
    layer (Core-F.Bind at h e) = e.1
    layer (Core-F.Index at a b) = two a b
    layer (Core-F.Through at a b) = two a b
    layer (Core-F.Operate at op k a b) = two a b
    layer (Core-F.And at a b) = two a b
    layer (Core-F.Or at a b) = two a b
    layer (Core-F.PointerOperate at op a b) = two a b
    layer (Core-F.Store at a b) = two a b
    layer (Core-F.Update at a c b) = two a b
    layer (Core-F.NewArray at t a b) = two a b
    layer (Core-F.Comma at es) = row es
    layer (Core-F.Block at es) = row es
    layer (Core-F.Sequence at es) = row es
    layer (Core-F.Conditional at q a b) = adds-more (nodes_of q ++ nodes_of a) (nodes_of b) (two q a) b.1
    layer (Core-F.Assign at t a b es) = adds-more (nodes_of a ++ nodes_of b) (list_of es) (two a b) (row es)
    layer (Core-F.Temporary at t e) = adds-then (adds-own (t ∷ [])) e.1
    layer (Core-F.Call at n t None es) = called t None es
    layer (Core-F.Call at n t (Some o) es) = called t (Some o) es
    layer (Core-F.VirtualCall at m t e es) = adds-then (own t) (adds-more (nodes_of e) (list_of es) e.1 (row es))
    layer (Core-F.PointerCall at None e t es) = pointer_called t None e es
    layer (Core-F.PointerCall at (Some o) e t es) = pointer_called t (Some o) e es
    layer (Core-F.Build at n t es) = adds-then (own t) (row es)
    layer (Core-F.Copy at t e es) = adds-more (nodes_of e) (list_of es) e.1 (row es)
    layer (Core-F.List at es e) = adds-more (list_of es) (nodes_of e) (row es) e.1
    layer (Core-F.If at q a None) = chosen q a None
    layer (Core-F.If at q a (Some o)) = chosen q a (Some o)
    layer (Core-F.Loop at how None None s) = looped None None s
    layer (Core-F.Loop at how None (Some e) s) = looped None (Some e) s
    layer (Core-F.Loop at how (Some q) None s) = looped (Some q) None s
    layer (Core-F.Loop at how (Some q) (Some e) s) = looped (Some q) (Some e) s
    layer (Core-F.Switch at e es) = adds-more (nodes_of e) (list_of es) e.1 (row es)
    layer (Core-F.Parts at ps s) =
        adds-more (nodes_parts (in_order (map started_of (map part_of ps)))) (nodes_of s) (part_row ps) s.1

    rolled : (x : Core-F Node PartStart) → IsLayer x → IsAdding (roll-Core x)
    rolled x p =
        subst (λ q. Adds (Piece.locals q) (added (nodes (core_of tables signature (roll-Core x))))) (sym (fold-roll-Core Piece Piece (piece_step tables.types) (pieces.part_step tables.types) x))
        (subst (λ e. Adds (Piece.locals (piece_step tables.types (map-Core _ _ _ _ (piece tables.types) (part_piece tables.types) x))) (added (nodes e)))
        (sym (fold-roll-Core Core Started (core_step tables signature) (started_step tables signature) x)) p)

    part_layer : (y : PartStart-F Child PartChild) → IsPartAdding (roll-PartStart (map-PartStart _ _ _ _ node_of part_of y))
    part_layer y =
        let x : PartStart-F Node PartStart = map-PartStart _ _ _ _ node_of part_of y in
        subst (λ q. Adds (Piece.locals q) (added (nodes (Started.start (started_of (roll-PartStart x)))))) (sym (fold-roll-PartStart Piece Piece (piece_step tables.types) (pieces.part_step tables.types) x))
        (subst (λ (s : Started). Adds (Piece.locals (piece tables.types y.start.0)) (added (nodes s.start)))
        (sym (fold-roll-PartStart Core Started (core_step tables signature) (started_step tables signature) x)) y.start.1)

    pub adding : (n : Node) → Adds (piece tables.types n).locals (added (nodes (core_of tables signature n)))
    adding = ind-Core IsAdding IsPartAdding
        (λ x y is. subst (λ z. IsAdding (roll-Core z)) is (rolled (shape y) (layer y)))
        (λ x y is. subst (λ z. IsPartAdding (roll-PartStart z)) is (part_layer y))

    pub added-count : (n : Node) → length ((piece tables.types n).locals []) ≡ width (core_of tables signature n)
    added-count n = sym (length-map ((piece tables.types n).locals []) (type_of tables)) ∙ ap length (Adds.adds (adding n) [])
