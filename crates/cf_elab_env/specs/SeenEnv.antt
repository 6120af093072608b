-- The environment that the code holds, as the definitions of elaboration see it: no class is defined in it.
use Rattle.std.specs.Prelude.{[], map}
use Rattle.cf_elab.specs.Env.{Env}
use Rattle.cf_elab_env.specs.declared.env.Env.TheInside.{Inside}
use Rattle.cf_elab_env.specs.Seen.{entity_seen}

abbrev pub env_seen : Inside → Env
env_seen e = record {
  extent = e.extent;
  defines = e.defines;
  types = e.types;
  classes = e.classes;
  open_classes = [];
  scopes = e.scopes;
  entities = map entity_seen e.entities.items;
  linked = e.linked.inner;
  entries = e.entries;
  member_defaults = [];
  hand = e.hand;
  functions = e.functions;
  statics = e.statics;
}
