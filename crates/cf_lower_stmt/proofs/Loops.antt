-- Loops by whether their turns end in a step.
use Rattle.std.specs.Prelude.{IsTrue, ◌↔◌}
use Rattle.std.proofs.Common.{◌≡◌, ℕ, Bool, true, false, List, [], ◌∷◌, ◌++◌, map, refl, sym, ap, ◌∙◌, append-nil}
use Rattle.cc_whole.specs.Plain as c
use Rattle.cc_whole.specs.Plain.{Body, Expression, Statement, SwitchItems, default_label, inner, switch_in_order}
use Rattle.cc_whole.specs.declared.statement.CStatement.{CStatement}
use Rattle.cc_whole.specs.declared.statement.CSwitchItem.{CSwitchItem}
use Rattle.cf_plain.specs.declared.statement.Plain.{Plain as CodePlain}
use Rattle.cf_plain.specs.Plain.{Plains, loop}
use Rattle.cf_lower.specs.Kept.{Keeping, untouched}
use Rattle.cf_lower.specs.Expressions.{zero as nought}
use Rattle.cf_lower.specs.Statements.{Inside, all_lowered, block, flag_set, if_flag, in_loop, in_stepped, lowered, stated_all}
use Rattle.cf_lower_held.specs.declared.scene.Scene.{Scene}
use Rattle.cf_lower_held.specs.Scenes.{statements_in}
use Rattle.cf_lower_stmt.specs.Steps.{begun, head, written, written_items}
use Rattle.cf_lower_stmt.proofs.Labels.{front_all, front_stated}

module _ (s : Scene) (x : Inside) (ss : Plains) (g : Keeping) where
  -- what registers hold at each turn
  abbrev at_turn : List CodePlain → Keeping
  at_turn ts = untouched x.locals (untouched x.locals g ss) (statements_in s ts)

  turns : (ts : List CodePlain) (alone : Bool) → (IsTrue alone ↔ (ts ≡ []))
      → c.loop (block (begun alone ss x (at_turn ts) ++ all_lowered (statements_in s ts) (in_loop x) (at_turn ts))) ∷ [] ≡ lowered (loop ss (statements_in s ts)) x g
  turns [] true told = ap (λ l. c.loop (block l) ∷ []) (append-nil (all_lowered ss (in_loop x) (untouched x.locals g ss)))
  turns [] false told = let k : false ≡ true = told.1 refl in cc
  turns (t ∷ ts) true told = let k : t ∷ ts ≡ [] = told.0 refl in cc
  turns (t ∷ ts) false told = refl

  pub loop_is : (ts : List CodePlain) (alone : Bool) (h : Keeping) (first w v : List Statement) → (IsTrue alone ↔ (ts ≡ [])) → h ≡ at_turn ts → first ≡ begun alone ss x h
      → v ≡ w ++ c.loop (block (first ++ all_lowered (statements_in s ts) (in_loop x) h)) ∷ [] → v ≡ w ++ lowered (loop ss (statements_in s ts)) x g
  loop_is ts alone h first w v told forgot begins written =
      written ∙ ap (λ l. w ++ c.loop (block (l ++ all_lowered (statements_in s ts) (in_loop x) h)) ∷ []) begins
      ∙ ap (λ k. w ++ c.loop (block (begun alone ss x k ++ all_lowered (statements_in s ts) (in_loop x) k)) ∷ []) forgot ∙ ap (λ l. w ++ l) (turns ts alone told)

-- ---- what is written first

-- a body of statements that are written from nothing
pub body_is : (none all : List CStatement) (ss : List Statement) (b : Body) → none ≡ [] → written all ≡ written none ++ ss → b ≡ block (written all) → b ≡ block ss
body_is none all ss b empty e is = is ∙ ap block (e ∙ ap (λ l. written l ++ ss) empty)

-- the statements of a turn that no step follows
pub turn_is : (x y : Inside) (ss : Plains) (g k : Keeping) (none all : List CStatement) → y ≡ in_loop x → k ≡ g → none ≡ [] → written all ≡ written none ++ all_lowered ss y k
    → written all ≡ all_lowered ss (in_loop x) g
turn_is x y ss g k none all there same empty is =
    is ∙ ap (λ l. written l ++ all_lowered ss y k) empty ∙ ap (λ z. all_lowered ss z k) there ∙ ap (all_lowered ss (in_loop x)) same

-- the statements of a turn behind the label of all other numbers
pub turn_items : (x y : Inside) (ss : Plains) (g k : Keeping) (first all : List CSwitchItem) (none code : List CStatement) → y ≡ in_stepped x → k ≡ g → none ≡ []
    → written code ≡ written none ++ all_lowered ss y k → written_items first ≡ default_label ∷ [] → written_items all ≡ written_items first ++ map inner (written code)
    → switch_in_order (written_items all) ≡ c.otherwise (stated_all (all_lowered ss (in_stepped x) g) c.closed)
turn_items x y ss g k first all none code there same empty e begun is =
    ap switch_in_order (is ∙ ap (λ l. l ++ map inner (written code)) begun) ∙ ap c.otherwise (sym (front_all (map inner (written code))) ∙ front_stated (written code) c.closed)
    ∙ ap (λ l. c.otherwise (stated_all l c.closed))
    (e ∙ ap (λ l. written l ++ all_lowered ss y k) empty ∙ ap (λ z. all_lowered ss z k) there ∙ ap (all_lowered ss (in_stepped x)) same)

-- what a turn begins with that a step follows, statement by statement
pub head_is : (n : ℕ) (none nothing : List CStatement) (e : Expression) (items : SwitchItems) (a b d l : List Statement) → none ≡ [] → a ≡ written none ++ flag_set n 0 ∷ []
    → e ≡ nought → b ≡ a ++ c.select e items ∷ [] → nothing ≡ [] → l ≡ written nothing ++ c.leave ∷ [] → d ≡ b ++ if_flag n l ∷ [] → d ≡ head n items
head_is n none nothing e items a b d l empty first tested second absent left third =
    third ∙ ap (λ k. k ++ if_flag n l ∷ []) (second ∙ ap (λ k. k ++ c.select e items ∷ []) (first ∙ ap (λ k. written k ++ flag_set n 0 ∷ []) empty))
    ∙ ap (λ k. flag_set n 0 ∷ c.select k items ∷ if_flag n l ∷ []) tested
    ∙ ap (λ k. flag_set n 0 ∷ c.select nought items ∷ if_flag n k ∷ []) (left ∙ ap (λ k. written k ++ c.leave ∷ []) absent)

-- by whether a step follows
module _ (x : Inside) (ss : Plains) (g : Keeping) (alone : Bool) (v : List Statement) where
  pub begun_alone : alone ≡ true → v ≡ all_lowered ss (in_loop x) g → v ≡ begun alone ss x g
  begun_alone so is = is ∙ sym (ap (λ b. begun b ss x g) so)

  pub begun_before : (items : SwitchItems) → alone ≡ false → items ≡ c.otherwise (stated_all (all_lowered ss (in_stepped x) g) c.closed) → v ≡ head x.depth items → v ≡ begun alone ss x g
  begun_before items not_so made is = is ∙ ap (head x.depth) made ∙ sym (ap (λ b. begun b ss x g) not_so)

-- a loop by what its turns begin with
pub ended_is : (x y : Inside) (ts : Plains) (g k : Keeping) (first f w v : List Statement) (whole : Body) → y ≡ in_loop x → k ≡ g → f ≡ first ++ all_lowered ts y k → whole ≡ block f
    → v ≡ w ++ c.loop whole ∷ [] → v ≡ w ++ c.loop (block (first ++ all_lowered ts (in_loop x) g)) ∷ []
ended_is x y ts g k first f w v whole there same stated is looped =
    looped ∙ ap (λ b. w ++ c.loop b ∷ []) is ∙ ap (λ l. w ++ c.loop (block l) ∷ []) stated
    ∙ ap (λ l. w ++ c.loop (block (first ++ l)) ∷ []) (ap (λ z. all_lowered ts z k) there ∙ ap (all_lowered ts (in_loop x)) same)
