use Rattle.std.proofs.Common.{rules}
use Rattle.std.specs.Option.{option_map}
use Rattle.cf_elab_declare.proofs.DeclaresLaws.FinishLaws.{file_is, static_is, local_is}
use Rattle.cf_elab_objects.specs.Objects.Seen.{says_seen}
use Rattle.cf_elab_declare.specs.Starts.Written.{written_seen}
use Rattle.cf_elab_declare.proofs.declares.objects.finish.Goals as goal

pub returns-in_err-file_defined-in-InFile-clause-made : goal.returns-in_err-file_defined-in-InFile-clause-made
returns-in_err-file_defined-in-InFile-clause-made c =
    rw (file_is c.args.begun (says_seen c.args.says.now) c.args.initial_at (option_map written_seen c.args.written) c.args.env.now c.in-InFile.is_internal c.in-InFile.is) (search rules)

pub returns-in_ok-file_defined-in-InFile-clause-made : goal.returns-in_ok-file_defined-in-InFile-clause-made
returns-in_ok-file_defined-in-InFile-clause-made c =
    rw (file_is c.args.begun (says_seen c.args.says.now) c.args.initial_at (option_map written_seen c.args.written) c.args.env.now c.in-InFile.is_internal c.in-InFile.is) (search rules)

pub returns-in_err-reached-in-Static-clause-made : goal.returns-in_err-reached-in-Static-clause-made
returns-in_err-reached-in-Static-clause-made c =
    rw (static_is c.args.begun (says_seen c.args.says.now) c.args.initial_at (option_map written_seen c.args.written) c.args.env.now c.in-Static.names c.in-Static.is) (search rules)

pub returns-in_ok-reached-in-Static-clause-made : goal.returns-in_ok-reached-in-Static-clause-made
returns-in_ok-reached-in-Static-clause-made c =
    rw (static_is c.args.begun (says_seen c.args.says.now) c.args.initial_at (option_map written_seen c.args.written) c.args.env.now c.in-Static.names c.in-Static.is) (search rules)

pub returns-in_err-reached-in-Local-clause-made : goal.returns-in_err-reached-in-Local-clause-made
returns-in_err-reached-in-Local-clause-made c =
    rw (local_is c.args.begun (says_seen c.args.says.now) c.args.initial_at (option_map written_seen c.args.written) c.args.env.now c.in-Local.local c.in-Local.is) (search rules)

pub returns-in_ok-reached-in-Local-clause-made : goal.returns-in_ok-reached-in-Local-clause-made
returns-in_ok-reached-in-Local-clause-made c =
    rw (local_is c.args.begun (says_seen c.args.says.now) c.args.initial_at (option_map written_seen c.args.written) c.args.env.now c.in-Local.local c.in-Local.is) (search rules)
