use Rattle.std.proofs.Common.{rules, ◌≡◌, ◌&&◌, ◌||◌, not, is_some, refl}
use Rattle.cf_elab.specs.Declaration as declaration
use Rattle.cf_elab.specs.Specifiers.{is_extern}
use Rattle.cf_elab_objects.specs.Objects.Seen.{says_seen}
use Rattle.cf_elab_declaration.proofs.DeclaratorsLaws.ObjectRows.{row_is}
use Rattle.cf_elab_declaration.proofs.declarators.objects.object_row.Goals as goal

pub returns-in_err-check_object-clause-made : goal.returns-in_err-check_object-clause-made
returns-in_err-check_object-clause-made c =
    let g = c.args.gathered.now in
    let own = c.identifier-own.result.now in
    let says = declaration.object_says g own c.args.name.now.last_at c.args.ty (not (is_extern g) || (c.args.in_file && is_some c.args.initialiser.now)) (is_some c.args.initialiser.now) in
    rw (row_is c.args.in_file g c.args.name.now c.args.ty own c.identifier-own.ensures c.args.env.now c.args.initialiser.now says refl) (search rules)

pub returns-in_err-reached-clause-made : goal.returns-in_err-reached-clause-made
returns-in_err-reached-clause-made c =
    let g = c.args.gathered.now in
    let own = c.identifier-own.result.now in
    let said : says_seen c.in_ok-says.says ≡ declaration.object_says g own c.args.name.now.last_at c.args.ty (not (is_extern g) || (c.args.in_file && is_some c.args.initialiser.now)) (is_some c.args.initialiser.now) =
    search rules in
    rw (row_is c.args.in_file g c.args.name.now c.args.ty own c.identifier-own.ensures c.args.env.now c.args.initialiser.now (says_seen c.in_ok-says.says) said) (search rules)

pub returns-in_err-check_type-clause-made : goal.returns-in_err-check_type-clause-made
returns-in_err-check_type-clause-made c =
    let g = c.args.gathered.now in
    let own = c.identifier-own.result.now in
    let said : says_seen c.in_ok-says.says ≡ declaration.object_says g own c.args.name.now.last_at c.args.ty (not (is_extern g) || (c.args.in_file && is_some c.args.initialiser.now)) (is_some c.args.initialiser.now) =
    search rules in
    rw (row_is c.args.in_file g c.args.name.now c.args.ty own c.identifier-own.ensures c.args.env.now c.args.initialiser.now (says_seen c.in_ok-says.says) said) (search rules)

pub returns-clause-made : goal.returns-clause-made
returns-clause-made c =
    let g = c.args.gathered.now in
    let own = c.identifier-own.result.now in
    let said : says_seen c.in_ok-says.says ≡ declaration.object_says g own c.args.name.now.last_at c.args.ty (not (is_extern g) || (c.args.in_file && is_some c.args.initialiser.now)) (is_some c.args.initialiser.now) =
    search rules in
    rw (row_is c.args.in_file g c.args.name.now c.args.ty own c.identifier-own.ensures c.args.env.now c.args.initialiser.now (says_seen c.in_ok-says.says) said) (search rules)
