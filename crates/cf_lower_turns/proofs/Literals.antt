-- The literals stand as they did where their blocks are left alone, and in each later map.
use Rattle.std.proofs.Common.{◌≡◌, ℕ, ◌<◌, ◌≤◌, true, false, refl, sym, ◌∙◌, ap, subst, arith}
use Rattle.std.specs.Prelude.{Option, Some, None}
use Rattle.cf_core.specs.Types.{Name}
use Rattle.cf_core.specs.Objects.{literal_of}
use Rattle.cf_core.specs.Run.{State}
use Rattle.cc_whole_memory.specs.Blocks.{Memory}
use Rattle.cf_lower_relate.specs.Map.{Fixed, Map, Grows}
use Rattle.cf_lower_relate.proofs.Objects.{cells-grow}
use Rattle.cf_lower_turns.specs.Texts.{Text, Texts, Free, NewText, MadeText, TextAs, object_of_text, TextsLaid, InTexts}

module _ (K : Fixed) (F G : Map) (grows : Grows F G) (m k : Memory) (x : Text) (free : Free F x.block → Free G x.block)
    (same : Free F x.block → k.block x.block ≡ m.block x.block) where
  pub text-stays : (o : Option ℕ) → TextAs K F m x o → TextAs K G k x o
  text-stays None t = record {
    free = free t.free;
    block = t.block;
    there = same t.free ∙ t.there;
    size = t.size;
    cells = cells-grow K F G grows (literal_of x.bytes) 0 t.block.cells t.cells;
  }
  text-stays (Some o) t = record {
    known = let a = t.known in let c = grows.count in omega (arith, a, c);
    type = grows.type o t.known ∙ t.type;
    visible = grows.visible o t.known t.visible;
    block = λ e. grows.block o t.known t.visible e ∙ t.block (grows.shown o t.known t.visible e);
    base = λ e. grows.base o t.known t.visible e ∙ t.base (grows.shown o t.known t.visible e);
  }

pub texts-stay : (K : Fixed) (texts : Texts) (first : ℕ) (F G : Map) → Grows F G → (s u : State) → u.literals ≡ s.literals → (m k : Memory) → TextsLaid K texts first
    → ((b : ℕ) → b < first → Free F b → Free G b) → ((b : ℕ) → b < first → Free F b → k.block b ≡ m.block b) → InTexts K texts F s m → InTexts K texts G u k
texts-stay K texts first F G grows s u literals m k laid free same h f j x e =
    let lt = laid.below f j x e in
    subst (TextAs K G k x) (ap (λ l. object_of_text f j (record s { literals = l })) (sym literals))
    (text-stays K F G grows m k x (free x.block lt) (same x.block lt) (object_of_text f j s) (h f j x e))
