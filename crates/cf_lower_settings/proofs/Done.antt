-- Statements of the C that set constants are done, and what objects hold is as it is in the source.
use Rattle.std.proofs.Common.{◌≡◌, ℕ, Bool, List, [], ◌∷◌, ◌++◌, map, Ok, refl, ap, sym, subst, ◌∙◌, append_assoc}
use Rattle.std.proofs.lemmas.List.{map-append}
use Rattle.cf_base.specs.World.{World, Ran, Went, and_then}
use Rattle.cf_core.specs.Types.{Name}
use Rattle.cf_core.specs.Run.{State}
use Rattle.cc_whole.specs.Plain.{Statement, Expression, in_order, assign, pointed}
use Rattle.cc_whole_closed.proofs.Plains.{statement_with}
use Rattle.cc_whole_memory.specs.Blocks.{Memory}
use Rattle.cc_whole_mean.specs.Flow as c
use Rattle.cc_whole_mean.specs.Flow.{in_memory, tried, falling}
use Rattle.cc_whole_mean.specs.Mean as mean
use Rattle.cc_whole_mean.specs.Scope.{Scope}
use Rattle.cc_whole_mean.specs.Values.{assigned}
use Rattle.cf_lower_layout.specs.Sorts.{Sort}
use Rattle.cf_lower.specs.Written.{c_type}
use Rattle.cf_lower.specs.Expressions.{as_stored}
use Rattle.cf_lower_relate.specs.Map.{Fixed, Map}
use Rattle.cf_lower_relate.specs.Relation.{Rel}
use Rattle.cf_lower_settings.specs.Set.{Since}

-- ---- what has changed

module _ (K : Fixed) (F : Map) where
  pub since-none : (s : State) (m : Memory) → Rel K F s m → Since K F s m s m
  since-none s m rel = record { rel = rel; next = refl; elsewhere = λ b free. refl; frame = refl; literals = refl; finished = refl }

  pub since-then : (s t u : State) (m n o : Memory) → Since K F s m t n → Since K F t n u o → Since K F s m u o
  since-then s t u m n o a b = record {
    rel = b.rel;
    next = b.next ∙ a.next;
    elsewhere = λ c free. b.elsewhere c free ∙ a.elsewhere c free;
    frame = b.frame ∙ a.frame;
    literals = b.literals ∙ a.literals;
    finished = b.finished ∙ a.finished;
  }

  pub since-reached : (s : State) (m : Memory) (names : List Name) → Rel K F s m → Since K F s m (record s { reached = names }) m
  since-reached s m names r = record {
    rel = record { count = r.count; type = r.type; laid = r.laid; gone = r.gone; stands = r.stands; below = r.below; apart = r.apart };
    next = refl;
    elsewhere = λ b free. refl;
    frame = refl;
    literals = refl;
    finished = refl;
  }

-- by the names in the program
abbrev pub with_names : (Name → Name) → List Statement → List Statement
with_names r ss = map (λ (x : Statement). statement_with x r) ss

module _ (K : Fixed) (F : Map) (names : Scope) (r : Name → Name) (c_again helps : mean.Again) (p : mean.Program) (inside : Bool) (depth : ℕ) where
  abbrev pub c_all : List Statement → c.State → World → Ran c.Flow
  c_all ss u w = mean.does_all c_again helps p inside (in_order ss) names depth u w

  -- these statements of the C are done before others
  pub record DoneBy (xs : List Statement) (s : State) (u : c.State) (t : State) : Type 0 where
    pub after : c.State
    pub runs : (rest : List Statement) (w : World) → c_all (xs ++ rest) u w ≡ c_all rest after w
    pub since : Since K F s u.memory t after.memory

  pub done-none : (s : State) (u : c.State) (t : State) → Since K F s u.memory t u.memory → DoneBy [] s u t
  done-none s u t since = record { after = u; runs = λ rest w. refl; since = since }

  pub done-then : (xs ys : List Statement) (s : State) (u : c.State) (t v : State) (a : DoneBy xs s u t) → DoneBy ys t a.after v → DoneBy (xs ++ ys) s u v
  done-then xs ys s u t v a b = record {
    after = b.after;
    runs = λ rest w. ap (λ l. c_all l u w) (append_assoc xs ys rest) ∙ a.runs (ys ++ rest) w ∙ b.runs rest w;
    since = since-then K F s t v u.memory a.after.memory b.after.memory a.since b.since;
  }

  -- of statements before names are replaced
  pub done-both : (xs ys : List Statement) (s : State) (u : c.State) (t v : State) (a : DoneBy (with_names r xs) s u t) → DoneBy (with_names r ys) t a.after v
      → DoneBy (with_names r (xs ++ ys)) s u v
  done-both xs ys s u t v a b =
      subst (λ l. DoneBy l s u v) (sym (map-append (λ (x : Statement). statement_with x r) xs ys)) (done-then (with_names r xs) (with_names r ys) s u t v a b)

  -- one store
  pub done-store : (k : Sort) (a e : Expression) (s t : State) (u : c.State) (after : Memory) → assigned (pointed (c_type k) a) (as_stored k e) names u.memory ≡ Ok after
      → Since K F s u.memory t after → DoneBy (assign (pointed (c_type k) a) (as_stored k e) ∷ []) s u t
  done-store k a e s t u after is since = record {
    after = in_memory u after;
    runs = λ rest w. ap (λ a. and_then (tried a w (λ m. Went (c.Falls (in_memory u m)) w)) (falling (λ s w. c_all rest s w))) is;
    since = since;
  }
