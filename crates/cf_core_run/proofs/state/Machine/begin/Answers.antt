use Rattle.cf_core_run.proofs.NearLaws.{weight-Number, weight-Text, weight-Function, weight-Local, weight-Static, weight-Apply, weight-Join, weight-And, weight-Or, weight-Conditional, weight-Comma, weight-Call, weight-PointerCall, weight-Bind, weight-Temporary, weight-Hold, weight-List, weight-Characters, weight-Zeros, weight-Blank}
use Rattle.cf_core_run.specs.Nearer.{weight, weights}
use Rattle.cf_core.specs.Core as nodes
use Rattle.cf_run_tree.specs.Tree.{signature_type, function_head, static_type, shape_type, object_type}
use Rattle.cf_run_tree.proofs.Views.{core-Call, core-Temporary, core-Hold, core-Text, core-Function, core-Static, core-List, core-Characters, core-Zeros}
use Rattle.std.proofs.Common.{◌∙◌, List, ℕ, option_map, ap, sym, rules, FitsSigned, w64, to_z-of_z, arith}
use Rattle.cf_core_place.specs.Routes.{goal_place}
use Rattle.cf_run_tree.specs.Tree.{core_of}
use Rattle.cf_core_objects.specs.declared.answer.Stop.TheVariants as stop
use Rattle.cf_core_objects.specs.declared.answer.Value.TheVariants as given
use Rattle.cf_core_run.specs.Going.{valued}
use Rattle.cf_core_objects.specs.Store.{state_of}
use Rattle.cf_core_objects.specs.Named.{named}
use Rattle.cf_core_run.proofs.Laws.{value-as, value-gives, value-stopped}
use Rattle.cf_core_run.proofs.Nodes.{no-value, node-Apply, node-Join, node-And, node-Or, node-Conditional, node-PointerCall}
use Rattle.cf_run_tree.proofs.Views.{core-Number, core-Local, core-Comma, core-Bind, core-Blank}
use Rattle.cf_core_run.proofs.state.Machine.begin.Goals as goal
use Rattle.std.proofs.Common.{map}
use Rattle.cf_core.specs.Core.{comma, bind, no_temporary}
use Rattle.cf_core.specs.View.{listed}
use Rattle.cf_run_tree.specs.declared.node.Node.{Node}
use Rattle.cf_core_run.specs.Going.{from_value}

pub returns-in-Number-clause-comes : goal.returns-in-Number-clause-comes
returns-in-Number-clause-comes c =
    value-gives c.args.program.now c.args.self.now c.args.self.now.entered c.args.self.now.objects (λ T. valued T c.args.program.now c.args.self.now.fuel (core_of T c.args.program.now c.args.e.now) (option_map goal_place c.args.into)) _
    (λ T w. ap (λ n. valued T c.args.program.now c.args.self.now.fuel n (option_map goal_place c.args.into) (state_of T c.args.self.now.entered c.args.self.now.objects) w)
    (ap (core_of T c.args.program.now) c.in-Number.is ∙ core-Number T c.args.program.now c.in-Number.value ∙ ap nodes.number (sym (to_z-of_z {w = w64} {z = c.in-Number.value} (let fits : FitsSigned w64 c.in-Number.value = search rules in fits)))))

pub returns-in-Local-clause-comes : goal.returns-in-Local-clause-comes
returns-in-Local-clause-comes c =
    value-as c.args.program.now c.args.self.now (λ T. valued T c.args.program.now c.args.self.now.fuel (core_of T c.args.program.now c.args.e.now) (option_map goal_place c.args.into)) (λ T. named c.in-Local.number) c.name_local.result c.name_local.new.self (c.name_local.ensures.comes c.args.program.now)
    (λ T s w. ap (λ n. valued T c.args.program.now c.args.self.now.fuel n (option_map goal_place c.args.into) s w) (ap (core_of T c.args.program.now) c.in-Local.is ∙ core-Local T c.args.program.now c.in-Local.number))

pub returns-in-Apply-clause-comes : goal.returns-in-Apply-clause-comes
returns-in-Apply-clause-comes c =
    value-as c.args.program.now c.args.self.now (λ T. valued T c.args.program.now c.args.self.now.fuel (core_of T c.args.program.now c.args.e.now) (option_map goal_place c.args.into)) _ c.down.result c.down.new.self (c.down.ensures.comes c.args.program.now)
    (λ T s w. node-Apply T c.args.program.now c.args.self.now.fuel c.args.e.now c.in-Apply.op c.in-Apply.a (option_map goal_place c.args.into) s w c.in-Apply.is)

pub returns-in-Join-clause-comes : goal.returns-in-Join-clause-comes
returns-in-Join-clause-comes c =
    value-as c.args.program.now c.args.self.now (λ T. valued T c.args.program.now c.args.self.now.fuel (core_of T c.args.program.now c.args.e.now) (option_map goal_place c.args.into)) _ c.down-in-Join.result c.down-in-Join.new.self (c.down-in-Join.ensures.comes c.args.program.now)
    (λ T s w. node-Join T c.args.program.now c.args.self.now.fuel c.args.e.now c.in-Join.op c.in-Join.a c.in-Join.b (option_map goal_place c.args.into) s w c.in-Join.is)

pub returns-in-And-clause-comes : goal.returns-in-And-clause-comes
returns-in-And-clause-comes c =
    value-as c.args.program.now c.args.self.now (λ T. valued T c.args.program.now c.args.self.now.fuel (core_of T c.args.program.now c.args.e.now) (option_map goal_place c.args.into)) _ c.down-in-And.result c.down-in-And.new.self (c.down-in-And.ensures.comes c.args.program.now)
    (λ T s w. node-And T c.args.program.now c.args.self.now.fuel c.args.e.now c.in-And.a c.in-And.b (option_map goal_place c.args.into) s w c.in-And.is)

pub returns-in-Or-clause-comes : goal.returns-in-Or-clause-comes
returns-in-Or-clause-comes c =
    value-as c.args.program.now c.args.self.now (λ T. valued T c.args.program.now c.args.self.now.fuel (core_of T c.args.program.now c.args.e.now) (option_map goal_place c.args.into)) _ c.down-in-Or.result c.down-in-Or.new.self (c.down-in-Or.ensures.comes c.args.program.now)
    (λ T s w. node-Or T c.args.program.now c.args.self.now.fuel c.args.e.now c.in-Or.a c.in-Or.b (option_map goal_place c.args.into) s w c.in-Or.is)

pub returns-in-Conditional-clause-comes : goal.returns-in-Conditional-clause-comes
returns-in-Conditional-clause-comes c =
    value-as c.args.program.now c.args.self.now (λ T. valued T c.args.program.now c.args.self.now.fuel (core_of T c.args.program.now c.args.e.now) (option_map goal_place c.args.into)) _ c.down-in-Conditional.result c.down-in-Conditional.new.self (c.down-in-Conditional.ensures.comes c.args.program.now)
    (λ T s w. node-Conditional T c.args.program.now c.args.self.now.fuel c.args.e.now c.in-Conditional.condition c.in-Conditional.a c.in-Conditional.b (option_map goal_place c.args.into) s w c.in-Conditional.is)

pub returns-in-Comma-clause-comes : goal.returns-in-Comma-clause-comes
returns-in-Comma-clause-comes c =
    value-as c.args.program.now c.args.self.now (λ T. valued T c.args.program.now c.args.self.now.fuel (core_of T c.args.program.now c.args.e.now) (option_map goal_place c.args.into)) _ c.comma.result c.comma.new.self (c.comma.ensures.comes c.args.program.now)
    (λ T s w. ap (λ n. valued T c.args.program.now c.args.self.now.fuel n (option_map goal_place c.args.into) s w)
    (ap (core_of T c.args.program.now) c.in-Comma.is ∙ core-Comma T c.args.program.now c.in-Comma.all ∙ ap (λ (l : List Node). comma (listed (map (core_of T c.args.program.now) l))) (sym c.as_slice-in-Comma.ensures)))

pub returns-in-Bind-clause-comes : goal.returns-in-Bind-clause-comes
returns-in-Bind-clause-comes c = record {
  same = λ T o. ap (λ n. from_value T c.args.program.now c.args.self.now (valued T c.args.program.now c.args.self.now.fuel n (option_map goal_place c.args.into)) o)
      (ap (core_of T c.args.program.now) c.in-Bind.is ∙ core-Bind T c.args.program.now c.in-Bind.a ∙ ap (λ (n : Node). bind no_temporary (core_of T c.args.program.now n)) (sym c.get.ensures));
}

pub returns-in-Blank-clause-comes : goal.returns-in-Blank-clause-comes
returns-in-Blank-clause-comes c =
    value-gives c.args.program.now c.args.self.now c.args.self.now.entered c.args.self.now.objects (λ T. valued T c.args.program.now c.args.self.now.fuel (core_of T c.args.program.now c.args.e.now) (option_map goal_place c.args.into)) given.Built
    (λ T w. ap (λ n. valued T c.args.program.now c.args.self.now.fuel n (option_map goal_place c.args.into) (state_of T c.args.self.now.entered c.args.self.now.objects) w) (ap (core_of T c.args.program.now) c.in-Blank.is ∙ core-Blank T c.args.program.now))

pub returns-in-Call-clause-comes : goal.returns-in-Call-clause-comes
returns-in-Call-clause-comes c =
    value-as c.args.program.now c.args.self.now (λ T. valued T c.args.program.now c.args.self.now.fuel (core_of T c.args.program.now c.args.e.now) (option_map goal_place c.args.into)) (λ T. valued T c.args.program.now c.args.self.now.fuel (nodes.call c.as_slice-in-Call.result.now (signature_type T (function_head c.args.program.now c.as_slice-in-Call.result.now c.in-Call.signature)) nodes.absent (listed (map (core_of T c.args.program.now) c.as_slice-in-Call-2.result.now))) (option_map goal_place c.args.into))
    c.call.result c.call.new.self (c.call.ensures.comes (option_map goal_place c.args.into))
    (λ T s w. ap (λ n. valued T c.args.program.now c.args.self.now.fuel n (option_map goal_place c.args.into) s w)
    (ap (core_of T c.args.program.now) c.in-Call.is ∙ core-Call T c.args.program.now c.in-Call.name c.in-Call.signature c.in-Call.all
    ∙ ap (λ (x : List ℕ). nodes.call x (signature_type T (function_head c.args.program.now x c.in-Call.signature)) nodes.absent (listed (map (core_of T c.args.program.now) c.in-Call.all))) (sym c.as_slice-in-Call.ensures)
    ∙ ap (λ (l : List Node). nodes.call c.as_slice-in-Call.result.now (signature_type T (function_head c.args.program.now c.as_slice-in-Call.result.now c.in-Call.signature)) nodes.absent (listed (map (core_of T c.args.program.now) l))) (sym c.as_slice-in-Call-2.ensures)))

pub returns-in-Temporary-clause-comes : goal.returns-in-Temporary-clause-comes
returns-in-Temporary-clause-comes c =
    value-as c.args.program.now c.args.self.now (λ T. valued T c.args.program.now c.args.self.now.fuel (core_of T c.args.program.now c.args.e.now) (option_map goal_place c.args.into)) (λ T. valued T c.args.program.now c.args.self.now.fuel (nodes.temporary (shape_type T c.in-Temporary.shape) (core_of T c.args.program.now c.in-Temporary.start)) (option_map goal_place c.args.into))
    c.temporary.result c.temporary.new.self (c.temporary.ensures.comes c.args.program.now (option_map goal_place c.args.into))
    (λ T s w. ap (λ n. valued T c.args.program.now c.args.self.now.fuel n (option_map goal_place c.args.into) s w) (ap (core_of T c.args.program.now) c.in-Temporary.is ∙ core-Temporary T c.args.program.now c.in-Temporary.shape c.in-Temporary.start))

pub returns-in-Hold-clause-comes : goal.returns-in-Hold-clause-comes
returns-in-Hold-clause-comes c =
    value-as c.args.program.now c.args.self.now (λ T. valued T c.args.program.now c.args.self.now.fuel (core_of T c.args.program.now c.args.e.now) (option_map goal_place c.args.into)) (λ T. valued T c.args.program.now c.args.self.now.fuel (nodes.bind (nodes.local_temporary c.in-Hold.number (shape_type T c.in-Hold.shape)) (core_of T c.args.program.now c.in-Hold.start)) (option_map goal_place c.args.into))
    c.hold.result c.hold.new.self (c.hold.ensures.comes c.args.program.now (option_map goal_place c.args.into))
    (λ T s w. ap (λ n. valued T c.args.program.now c.args.self.now.fuel n (option_map goal_place c.args.into) s w) (ap (core_of T c.args.program.now) c.in-Hold.is ∙ core-Hold T c.args.program.now c.in-Hold.number c.in-Hold.shape c.in-Hold.start))

pub returns-in-Text-clause-comes : goal.returns-in-Text-clause-comes
returns-in-Text-clause-comes c =
    value-as c.args.program.now c.args.self.now (λ T. valued T c.args.program.now c.args.self.now.fuel (core_of T c.args.program.now c.args.e.now) (option_map goal_place c.args.into)) (λ T. valued T c.args.program.now c.args.self.now.fuel (nodes.text c.in-Text.number c.as_slice.result.now) (option_map goal_place c.args.into))
    c.text.result c.text.new.self (c.text.ensures.comes c.args.program.now (option_map goal_place c.args.into))
    (λ T s w. ap (λ n. valued T c.args.program.now c.args.self.now.fuel n (option_map goal_place c.args.into) s w) (ap (core_of T c.args.program.now) c.in-Text.is ∙ core-Text T c.args.program.now c.in-Text.number c.in-Text.bytes ∙ ap (nodes.text c.in-Text.number) (sym c.as_slice.ensures)))

pub returns-in-Function-clause-comes : goal.returns-in-Function-clause-comes
returns-in-Function-clause-comes c =
    value-as c.args.program.now c.args.self.now (λ T. valued T c.args.program.now c.args.self.now.fuel (core_of T c.args.program.now c.args.e.now) (option_map goal_place c.args.into)) (λ T. valued T c.args.program.now c.args.self.now.fuel (nodes.function c.as_slice-in-Function.result.now (signature_type T (function_head c.args.program.now c.as_slice-in-Function.result.now c.in-Function.signature))) (option_map goal_place c.args.into))
    c.function.result c.function.new.self (c.function.ensures.comes)
    (λ T s w. ap (λ n. valued T c.args.program.now c.args.self.now.fuel n (option_map goal_place c.args.into) s w) (ap (core_of T c.args.program.now) c.in-Function.is ∙ core-Function T c.args.program.now c.in-Function.name c.in-Function.signature ∙ ap (λ (x : List ℕ). nodes.function x (signature_type T (function_head c.args.program.now x c.in-Function.signature))) (sym c.as_slice-in-Function.ensures)))

pub returns-in-Static-clause-comes : goal.returns-in-Static-clause-comes
returns-in-Static-clause-comes c =
    value-as c.args.program.now c.args.self.now (λ T. valued T c.args.program.now c.args.self.now.fuel (core_of T c.args.program.now c.args.e.now) (option_map goal_place c.args.into)) (λ T. valued T c.args.program.now c.args.self.now.fuel (nodes.static_object c.as_slice-in-Static.result.now (object_type T (static_type c.args.program.now c.as_slice-in-Static.result.now c.in-Static.field-1))) (option_map goal_place c.args.into))
    c.name_static.result c.name_static.new.self (c.name_static.ensures.comes c.in-Static.field-1 (option_map goal_place c.args.into))
    (λ T s w. ap (λ n. valued T c.args.program.now c.args.self.now.fuel n (option_map goal_place c.args.into) s w) (ap (core_of T c.args.program.now) c.in-Static.is ∙ core-Static T c.args.program.now c.in-Static.name c.in-Static.field-1 ∙ ap (λ (x : List ℕ). nodes.static_object x (object_type T (static_type c.args.program.now x c.in-Static.field-1))) (sym c.as_slice-in-Static.ensures)))

pub returns-in-PointerCall-clause-comes : goal.returns-in-PointerCall-clause-comes
returns-in-PointerCall-clause-comes c =
    value-as c.args.program.now c.args.self.now (λ T. valued T c.args.program.now c.args.self.now.fuel (core_of T c.args.program.now c.args.e.now) (option_map goal_place c.args.into)) _ c.down-in-PointerCall.result c.down-in-PointerCall.new.self (c.down-in-PointerCall.ensures.comes c.args.program.now)
    (λ T s w. node-PointerCall T c.args.program.now c.args.self.now.fuel c.args.e.now c.in-PointerCall.callee c.in-PointerCall.signature c.in-PointerCall.all c.as_slice-in-PointerCall.result (option_map goal_place c.args.into) s w c.in-PointerCall.is c.as_slice-in-PointerCall.ensures)

pub returns-in-List-clause-comes : goal.returns-in-List-clause-comes
returns-in-List-clause-comes c =
    value-as c.args.program.now c.args.self.now (λ T. valued T c.args.program.now c.args.self.now.fuel (core_of T c.args.program.now c.args.e.now) (option_map goal_place c.args.into)) (λ T. valued T c.args.program.now c.args.self.now.fuel (nodes.list (listed (map (core_of T c.args.program.now) c.as_slice-in-List.result.now)) (core_of T c.args.program.now c.in-List.rest)) (option_map goal_place c.args.into))
    c.begin_list.result c.begin_list.new.self (c.begin_list.ensures.comes c.args.program.now)
    (λ T s w. ap (λ n. valued T c.args.program.now c.args.self.now.fuel n (option_map goal_place c.args.into) s w) (ap (core_of T c.args.program.now) c.in-List.is ∙ core-List T c.args.program.now c.in-List.all c.in-List.rest ∙ ap (λ (l : List Node). nodes.list (listed (map (core_of T c.args.program.now) l)) (core_of T c.args.program.now c.in-List.rest)) (sym c.as_slice-in-List.ensures)))

pub returns-in-Characters-clause-comes : goal.returns-in-Characters-clause-comes
returns-in-Characters-clause-comes c =
    value-as c.args.program.now c.args.self.now (λ T. valued T c.args.program.now c.args.self.now.fuel (core_of T c.args.program.now c.args.e.now) (option_map goal_place c.args.into)) (λ T. valued T c.args.program.now c.args.self.now.fuel (nodes.string c.as_slice-in-Characters.result.now) (option_map goal_place c.args.into))
    c.characters.result c.characters.new.self (c.characters.ensures.comes c.args.program.now)
    (λ T s w. ap (λ n. valued T c.args.program.now c.args.self.now.fuel n (option_map goal_place c.args.into) s w) (ap (core_of T c.args.program.now) c.in-Characters.is ∙ core-Characters T c.args.program.now c.in-Characters.bytes ∙ ap nodes.string (sym c.as_slice-in-Characters.ensures)))

pub returns-in-Zeros-clause-comes : goal.returns-in-Zeros-clause-comes
returns-in-Zeros-clause-comes c =
    value-as c.args.program.now c.args.self.now (λ T. valued T c.args.program.now c.args.self.now.fuel (core_of T c.args.program.now c.args.e.now) (option_map goal_place c.args.into)) (λ T. valued T c.args.program.now c.args.self.now.fuel nodes.zeros (option_map goal_place c.args.into))
    c.zeros.result c.zeros.new.self (c.zeros.ensures.comes c.args.program.now)
    (λ T s w. ap (λ n. valued T c.args.program.now c.args.self.now.fuel n (option_map goal_place c.args.into) s w) (ap (core_of T c.args.program.now) c.in-Zeros.is ∙ core-Zeros T c.args.program.now))

pub returns-in_default-clause-comes : goal.returns-in_default-clause-comes
returns-in_default-clause-comes c =
    value-stopped c.args.program.now c.args.self.now (λ T. valued T c.args.program.now c.args.self.now.fuel (core_of T c.args.program.now c.args.e.now) (option_map goal_place c.args.into)) stop.Malformed
    (λ T w. no-value T c.args.program.now c.args.self.now.fuel c.args.e.now (option_map goal_place c.args.into) (state_of T c.args.self.now.entered c.args.self.now.objects) w
    (record {
      number = c.in_default.not-Number;
      text = c.in_default.not-Text;
      function = c.in_default.not-Function;
      local = c.in_default.not-Local;
      static = c.in_default.not-Static;
      apply = c.in_default.not-Apply;
      join = c.in_default.not-Join;
      and = c.in_default.not-And;
      or = c.in_default.not-Or;
      conditional = c.in_default.not-Conditional;
      comma = c.in_default.not-Comma;
      call = c.in_default.not-Call;
      pointer_call = c.in_default.not-PointerCall;
      bind = c.in_default.not-Bind;
      temporary = c.in_default.not-Temporary;
      hold = c.in_default.not-Hold;
      list = c.in_default.not-List;
      characters = c.in_default.not-Characters;
      zeros = c.in_default.not-Zeros;
      blank = c.in_default.not-Blank;
    }))

pub returns-in-Number-clause-within : goal.returns-in-Number-clause-within
returns-in-Number-clause-within c = λ p. omega (arith, ap weight c.in-Number.is ∙ weight-Number c.in-Number.value)

pub returns-in-Text-clause-within : goal.returns-in-Text-clause-within
returns-in-Text-clause-within c = λ p. omega (arith, c.text.ensures.within p, ap weight c.in-Text.is ∙ weight-Text c.in-Text.number c.in-Text.bytes)

pub returns-in-Function-clause-within : goal.returns-in-Function-clause-within
returns-in-Function-clause-within c = λ p. omega (arith, c.function.ensures.within p, ap weight c.in-Function.is ∙ weight-Function c.in-Function.name c.in-Function.signature)

pub returns-in-Local-clause-within : goal.returns-in-Local-clause-within
returns-in-Local-clause-within c = λ p. omega (arith, c.name_local.ensures.within p, ap weight c.in-Local.is ∙ weight-Local c.in-Local.number)

pub returns-in-Static-clause-within : goal.returns-in-Static-clause-within
returns-in-Static-clause-within c = λ p. omega (arith, c.name_static.ensures.within p, ap weight c.in-Static.is ∙ weight-Static c.in-Static.name c.in-Static.field-1)

pub returns-in-Apply-clause-within : goal.returns-in-Apply-clause-within
returns-in-Apply-clause-within c = λ p. omega (arith, c.down.ensures.within p, ap weight c.in-Apply.is ∙ weight-Apply c.in-Apply.op c.in-Apply.a)

pub returns-in-Join-clause-within : goal.returns-in-Join-clause-within
returns-in-Join-clause-within c = λ p. omega (arith, c.down-in-Join.ensures.within p, ap weight c.in-Join.is ∙ weight-Join c.in-Join.op c.in-Join.a c.in-Join.b)

pub returns-in-And-clause-within : goal.returns-in-And-clause-within
returns-in-And-clause-within c = λ p. omega (arith, c.down-in-And.ensures.within p, ap weight c.in-And.is ∙ weight-And c.in-And.a c.in-And.b)

pub returns-in-Or-clause-within : goal.returns-in-Or-clause-within
returns-in-Or-clause-within c = λ p. omega (arith, c.down-in-Or.ensures.within p, ap weight c.in-Or.is ∙ weight-Or c.in-Or.a c.in-Or.b)

pub returns-in-Conditional-clause-within : goal.returns-in-Conditional-clause-within
returns-in-Conditional-clause-within c = λ p. omega (arith, c.down-in-Conditional.ensures.within p, ap weight c.in-Conditional.is ∙ weight-Conditional c.in-Conditional.condition c.in-Conditional.a c.in-Conditional.b)

pub returns-in-Comma-clause-within : goal.returns-in-Comma-clause-within
returns-in-Comma-clause-within c = λ p. omega (arith, c.comma.ensures.within p, ap weights c.as_slice-in-Comma.ensures, ap weight c.in-Comma.is ∙ weight-Comma c.in-Comma.all)

pub returns-in-Call-clause-within : goal.returns-in-Call-clause-within
returns-in-Call-clause-within c = λ p. omega (arith, c.call.ensures.within p, ap weights c.as_slice-in-Call-2.ensures, ap weight c.in-Call.is ∙ weight-Call c.in-Call.name c.in-Call.signature c.in-Call.all)

pub returns-in-PointerCall-clause-within : goal.returns-in-PointerCall-clause-within
returns-in-PointerCall-clause-within c = λ p. omega (arith, c.down-in-PointerCall.ensures.within p, ap weights c.as_slice-in-PointerCall.ensures, ap weight c.in-PointerCall.is ∙ weight-PointerCall c.in-PointerCall.callee c.in-PointerCall.signature c.in-PointerCall.all)

pub returns-in-Bind-clause-within : goal.returns-in-Bind-clause-within
returns-in-Bind-clause-within c = λ p. omega (arith, ap weight c.get.ensures, ap weight c.in-Bind.is ∙ weight-Bind c.in-Bind.a)

pub returns-in-Temporary-clause-within : goal.returns-in-Temporary-clause-within
returns-in-Temporary-clause-within c = λ p. omega (arith, c.temporary.ensures.within p, ap weight c.in-Temporary.is ∙ weight-Temporary c.in-Temporary.shape c.in-Temporary.start)

pub returns-in-Hold-clause-within : goal.returns-in-Hold-clause-within
returns-in-Hold-clause-within c = λ p. omega (arith, c.hold.ensures.within p, ap weight c.in-Hold.is ∙ weight-Hold c.in-Hold.number c.in-Hold.shape c.in-Hold.start)

pub returns-in-List-clause-within : goal.returns-in-List-clause-within
returns-in-List-clause-within c = λ p. omega (arith, c.begin_list.ensures.within p, ap weights c.as_slice-in-List.ensures, ap weight c.in-List.is ∙ weight-List c.in-List.all c.in-List.rest)

pub returns-in-Characters-clause-within : goal.returns-in-Characters-clause-within
returns-in-Characters-clause-within c = λ p. omega (arith, c.characters.ensures.within p, ap weight c.in-Characters.is ∙ weight-Characters c.in-Characters.bytes)

pub returns-in-Zeros-clause-within : goal.returns-in-Zeros-clause-within
returns-in-Zeros-clause-within c = λ p. omega (arith, c.zeros.ensures.within p, ap weight c.in-Zeros.is ∙ weight-Zeros)

pub returns-in-Blank-clause-within : goal.returns-in-Blank-clause-within
returns-in-Blank-clause-within c = λ p. omega (arith, ap weight c.in-Blank.is ∙ weight-Blank)
