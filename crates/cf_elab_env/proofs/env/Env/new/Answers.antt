use Rattle.std.proofs.Common.{rules, ℕ, List, All, ◌<◌, length, map, sym, ap, subst, ◌∙◌, refl}
use Rattle.cf_elab.specs.Env.{Name, FunctionEntry}
use Rattle.cf_elab.specs.File.{first_env}
use Rattle.cf_elab_env.specs.Holds.{IsEntry}
use Rattle.cf_elab_env.specs.Seen.{entity_seen}
use Rattle.cf_elab_env.specs.Shut as shut
use Rattle.cf_elab_env.proofs.Beginning.{begun_is}
use Rattle.cf_elab_env.proofs.env.Env.new.Goals as goal

pub returns-clause-made : goal.returns-clause-made
returns-clause-made c =
    ap (λ ds. shut.int (first_env c.args.extent ds)) (sym c.in_ok-defines.ensures)
    ∙ begun_is c.args.extent c.in_ok-defines.defines c.new-types.result c.intern.new.self c.in_ok-int.int c.new.result c.new-2.result _ _ _ c.in_ok-hand.hand _ _
    c.new-types.ensures.types c.new-types.ensures.funs c.in_ok-int.ensures.ok c.intern.ensures.funs c.new.ensures.labels c.new.ensures.enums c.new.ensures.defined
    c.new-2.ensures.outer c.new-2.ensures.inner (ap (map entity_seen) c.new-3.ensures.items) c.new-4.ensures.inner c.new-5.ensures
    c.in_ok-hand.ensures c.new-6.ensures c.new-7.ensures

pub invariant_of-env : goal.invariant_of-env
invariant_of-env c = record {
  no_class = search rules;
  no_open_class = refl;
  table = search rules;
  no_class_type = search rules;
  enums = search rules;
  no_outer = search rules;
  entities = search rules;
  entries = subst (λ (fs : List FunctionEntry). All (λ f. IsEntry c.intern.new.self f) fs) (sym c.new-5.ensures) (search rules);
  outer = search rules;
  inner = search rules;
  linked = subst (λ (xs : List (Name × ℕ)). All (λ x. x.1 < length (map entity_seen c.new-3.result.items)) xs) (sym c.new-4.ensures.inner) (search rules);
  hand = search rules;
}
