-- What is known at the begin of a file, behind its first type.
use Rattle.std.proofs.Common.{◌≡◌, ℕ, List, [], refl, sym, ap, subst, ◌∙◌}
use Rattle.cf_base.specs.declared.kind.Kind.TheVariants as kind
use Rattle.cf_types.specs.declared.ty.Ty.{Ty}
use Rattle.cf_types.specs.declared.ty.Ty.TheVariants as ty
use Rattle.cf_types.specs.Table.{Table, Enters}
use Rattle.cf_classes.specs.ClassTable.{ClassTable}
use Rattle.cf_lookup.specs.Scope.{OpenScopes}
use Rattle.cf_core.specs.declared.unit.CoreFn.{CoreFn}
use Rattle.cf_core.specs.declared.unit.CoreStatic.{CoreStatic}
use Rattle.cf_elab.specs.Answer.{Made}
use Rattle.cf_elab.specs.Env.{Env, Extent, Name, Entity, FunctionEntry, Hand}
use Rattle.cf_elab.specs.File.{first_env, file_hand}
use Rattle.cf_elab_env.specs.Shut as shut
use Rattle.cf_elab_env.proofs.Interned.{interned}
use Rattle.cf_elab_env.proofs.Making.{int_made, of_kind_made}

pub begun_is : (extent : Extent) (defines : List Name) (start new : Table) (place : ℕ) (classes : ClassTable) (scopes : OpenScopes) (entities : List Entity) (linked : List (Name × ℕ))
    (entries : List FunctionEntry) (hand : Hand) (functions : List CoreFn) (statics : List CoreStatic)
    → start.types ≡ [] → start.funs ≡ [] → Enters start.types new.types (ty.Int kind.Int) place → new.funs ≡ start.funs
    → classes.labels ≡ [] → classes.enums ≡ [] → classes.defined ≡ [] → scopes.outer ≡ [] → scopes.inner ≡ [] → entities ≡ [] → linked ≡ [] → entries ≡ []
    → hand ≡ file_hand → functions ≡ [] → statics ≡ []
    → shut.int (first_env extent defines) ≡ Made place (record {
      extent = extent;
      defines = defines;
      types = new;
      classes = classes;
      open_classes = [];
      scopes = scopes;
      entities = entities;
      linked = linked;
      entries = entries;
      member_defaults = [];
      hand = hand;
      functions = functions;
      statics = statics;
    })
begun_is extent defines start new place classes scopes entities linked entries hand functions statics no_types no_funs enters same labels enums defined outer inner e l f h fs ss =
    let env : Env = first_env extent defines in
    let first = interned env new (ty.Int kind.Int) place (subst (λ (xs : List Ty). Enters xs new.types (ty.Int kind.Int) place) no_types enters) (same ∙ no_funs) in
    int_made env _ (of_kind_made kind.Int env _ first)
    ∙ (λ i. Made place (record {
      extent = extent;
      defines = defines;
      types = new;
      classes = record { labels = sym labels i; enums = sym enums i; defined = sym defined i };
      open_classes = [];
      scopes = record { outer = sym outer i; inner = sym inner i };
      entities = sym e i;
      linked = sym l i;
      entries = sym f i;
      member_defaults = [];
      hand = sym h i;
      functions = sym fs i;
      statics = sym ss i;
    }))
