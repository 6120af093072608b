-- Functions whose C is lowered fit, where their statements have what they need.
use Rattle.std.proofs.Common.{◌≡◌, ℕ, ◌≤◌, true, false, List, refl, sym, ◌∙◌, ap, subst}
use Rattle.std.specs.Prelude.{Some}
use Rattle.cf_core.specs.Types.{Name, parameters, result as result_type}
use Rattle.cf_core.specs.Core.{Function}
use Rattle.cf_core.specs.Run.{State}
use Rattle.cf_core.specs.Objects.{static_number}
use Rattle.cf_lower_layout.specs.Sorts.{sort_of}
use Rattle.cf_plain.specs.Plain.{PlainFunction}
use Rattle.cf_plain.specs.Running.{plain_named, header}
use Rattle.cc_whole.specs.Plain as c_tree
use Rattle.cc_whole_memory.specs.declared.value.Value.{Value}
use Rattle.cc_whole_memory.specs.Blocks.{Memory}
use Rattle.cc_whole_mean.specs.Flow.{born_arguments}
use Rattle.cf_lower.specs.Written.{literal_name}
use Rattle.cf_lower_relate.specs.Map.{Map, Stage, hidden, shown, ended, is_shown, is_hidden}
use Rattle.cf_lower_calls.specs.Invoked.LowerActions.{StaticObject, Fits}
use Rattle.cf_lower_calls.specs.Returns.Called.{Programs, Pair, Entry, FunctionsAlike}
use Rattle.cf_lower_calls.specs.Born.Laid.{c_locals, own_of, flags_of}
use Rattle.cf_lower_calls.proofs.BornLaws.Blocks.{frame-born, types-fit, shaped-born, outside-born}
use Rattle.cf_lower_calls.specs.Entered.Linked.{linked_function}
use Rattle.cf_lower_calls.specs.Entered.Bodies.{BodyFits, FunctionFits, AllFit}
use Rattle.cf_lower_calls.specs.Entered.Lowered.{Fitting, IsLowered, entered_scene, HasNeeds, AllLowered, AllHaveNeeds}
use Rattle.cf_lower_calls.proofs.EnteredLaws.Alike.{alike-always}

shown-seen : (st : Stage) → is_shown st ≡ true → is_hidden st ≡ false
shown-seen hidden h = absurd (let k = h in cc)
shown-seen shown h = refl
shown-seen ended h = absurd (let k = h in cc)

module _ (B : Programs) (fitting : Fitting B) (n : ℕ) where
  module _ (f : Function) (g : c_tree.Function) (x : IsLowered B f g) (E : Map) (s : State) (first : Memory) (os : List ℕ) (cs : List Value) (depth : ℕ)
      (entry : Entry B (header x.plain) E s first os cs) where
    abbrev p : PlainFunction
    p = x.plain

    pub scene-fits : Fits (entered_scene B p E first cs depth)
    scene-fits = record {
      classes = refl;
      locals = refl;
      result = refl;
      numbered = fitting.numbered;
      named = λ name is.
          let o = x.functions name is in outside-born B p x.laid E s first os cs entry name o.locals o.parameters ∙ fitting.named name is;
      typed = fitting.typed;
      shaped = shaped-born B p x.laid E s first os cs entry;
      statics = λ name i is.
          let o = x.statics name i is in
          let there = entry.statics name i is in
          record {
            shape = there.shape;
            named = outside-born B p x.laid E s first os cs entry name o.locals o.parameters ∙ there.named;
            known = there.known;
            type = there.type;
            visible = shown-seen (E.stage i) there.shown;
            base = there.base;
          };
      literals = λ j t is.
          let o = x.literals j t is in outside-born B p x.laid E s first os cs entry (literal_name p.name j) o.locals o.parameters ∙ fitting.literals p.name j t is;
    }

    body-fits : HasNeeds B n p E first cs depth → BodyFits B n p (linked_function B.program.classes p) (c_locals B.program.classes p) E first cs depth
    body-fits needed = record {
      own = own_of p first.next (born_arguments cs first).next;
      flags = flags_of p (born_arguments cs first).next;
      frame = frame-born B p x.laid E s first os cs entry;
      typed = types-fit B p x.laid E s first os cs entry;
      fits = scene-fits;
      last = needed.last;
      needs = needed.needs;
    }

  function-fits : (f : Function) (g : c_tree.Function) → IsLowered B f g
      → ((p : PlainFunction) → plain_named B.functions p.name ≡ Some p → (E : Map) (s : State) (first : Memory) (os : List ℕ) (cs : List Value) (depth : ℕ)
      → Entry B (header p) E s first os cs → HasNeeds B n p E first cs depth) → FunctionFits B n f g
  function-fits f g x needed = record {
    plain = x.plain;
    found = x.found;
    is = x.is;
    role = x.role;
    scalar = x.scalar;
    locals = c_locals B.program.classes x.plain;
    made = ap (λ (k : c_tree.Function). k.body) x.made;
    entered = λ E s first os cs depth entry.
        let there : Entry B (header x.plain) E s first os cs = subst (λ (k : Function). Entry B k E s first os cs) x.is entry in
        subst (λ (k : c_tree.Function). BodyFits B n x.plain k (c_locals B.program.classes x.plain) E first cs depth) (sym x.made)
        (body-fits f g x E s first os cs depth there
        (needed x.plain (sym (ap (λ (k : Function). plain_named B.functions k.name) x.is) ∙ x.found) E s first os cs depth there));
  }

pub programs-alike : (B : Programs) → Fitting B → AllLowered B → AllHaveNeeds B → (n : ℕ) → FunctionsAlike B n
programs-alike B fitting lowered needs n =
    alike-always B fitting.none fitting.simple (λ k alike f g pair. function-fits B fitting k f g (lowered f g pair) (needs k alike)) n
