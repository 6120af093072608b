-- A function has come back where no object of its own stands, once the blocks of its C locals have ended.
use Rattle.std.proofs.Common.{◌≡◌, ℕ, ◌<◌, ◌≤◌, true, false, List, refl, sym, ◌∙◌, ap, arith, inl, inr}
use Rattle.std.specs.Prelude.{Option, Some, ◌⊎◌}
use Rattle.cf_core.specs.Store as source
use Rattle.cf_core.specs.Run.{State}
use Rattle.cf_lower_layout.specs.Sorts.{Sort}
use Rattle.cc_whole_locals.proofs.Blocks.{ended-next, ended-below}
use Rattle.cc_whole_memory.specs.Blocks.{Memory}
use Rattle.cc_whole_mean.specs.Flow as c
use Rattle.cc_whole_mean.specs.Flow.{ending, ending_state, ended_from}
use Rattle.cc_whole_mean.specs.Scope.{Scope}
use Rattle.cf_lower_relate.specs.Map.{Fixed, Map, is_ended}
use Rattle.cf_lower_relate.specs.Relation.{Rel}
use Rattle.cf_lower_relate.proofs.Objects.{rel-other}
use Rattle.cf_lower_relate.proofs.Values.{grows-same}
use Rattle.cf_lower_steps.specs.Own.{Own}
use Rattle.cf_lower_turns.specs.Flags.{Flags}
use Rattle.cf_lower_turns.specs.Here.{Body, Remains, Outer, InLocal}
use Rattle.cf_lower_turns.specs.Texts.{Texts, TextsLaid, InTexts}
use Rattle.cf_lower_turns.specs.Scene.{GivesBack}
use Rattle.cf_lower_turns.proofs.Literals.{texts-stay}
use Rattle.cf_lower_calls.specs.Returns.Called.{CameBack}
use Rattle.cf_lower_calls.specs.Frames.Frame.{body_of, AllOver, OthersStay}

module _ (K : Fixed) (own : Own) (flags : Flags) (scope : Scope) (texts : Texts) (E : Map) (first : Memory) (result : Option Sort) (v : source.Value) (s : State)
    (flow : c.Flow) (back : GivesBack K (body_of own flags scope texts E first) result v s flow) (over : AllOver own s) (before : State) (os : List ℕ)
    (stay : OthersStay os before s) (k b : ℕ) (le : first.next ≤ b) where
  abbrev at : Body
  at = body_of own flags scope texts E first

  -- the memory behind the function's statements, and that in which its blocks have ended
  abbrev n : Memory
  n = back.after.memory

  abbrev e : Memory
  e = ended_from k b n

  homes-last : (o : ℕ) → o < back.map.count → is_ended (back.map.stage o) ≡ false → back.map.block o < first.next
  homes-last o lo live = by_home (back.homes o lo live)
    where
      by_home : (back.map.block o < first.next) ⊎ InLocal at (back.map.block o) → back.map.block o < first.next
      by_home (inl lt) = lt
      by_home (inr x) =
          let there = back.locals.only x.local o x.there lo live x.is in
          absurd (let q = sym (over x.local o x.there there) ∙ back.rel.gone o lo ∙ live in cc)

  below-same : (c : ℕ) → c < first.next → e.block c ≡ n.block c
  below-same c lt = ended-below k b n c (omega (arith, lt, le))

  rel-last : Rel K back.map s e
  rel-last = rel-other K back.map s n back.rel e (let q = ended-next k b n in omega (arith, q)) (λ o lo live. below-same (back.map.block o) (homes-last o lo live))

  outer-last : Outer texts E back.map first e
  outer-last = record {
    next = let o = back.outer.next in let q = ended-next k b n in omega (arith, o, q);
    remains = λ c x lc is.
        let r = back.outer.remains c x lc is in
        record { block = r.block; there = below-same c lc ∙ r.there; size = r.size };
    same = λ c lc no free. below-same c lc ∙ back.outer.same c lc no free;
    free = back.outer.free;
    hidden = back.outer.hidden;
    before = back.outer.before;
  }

  module _ (laid : TextsLaid K texts first.next) where
    texts-last : InTexts K texts back.map s e
    texts-last = texts-stay K texts first.next back.map back.map (grows-same back.map) s s refl n e laid (λ c lc free. free) (λ c lc free. below-same c lc) back.texts

    pub comes-back : CameBack K texts E first before os result v s (ending k b flow)
    comes-back = record {
      value = back.value;
      after = ending_state k b back.after;
      is = ap (ending k b) back.is;
      map = back.map;
      grows = back.grows;
      rel = rel-last;
      outer = outer-last;
      homes = homes-last;
      kept = stay;
      texts_there = texts-last;
      given = back.given;
    }
