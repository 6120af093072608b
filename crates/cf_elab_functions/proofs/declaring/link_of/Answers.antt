use Rattle.cf_elab_functions.proofs.LinkLaws.{main_link_is}
use Rattle.cf_elab_functions.proofs.declaring.link_of.Goals as goal

pub returns-in_ok-link-in-Main : goal.returns-in_ok-link-in-Main
returns-in_ok-link-in-Main c =
    main_link_is c.args.env.now c.args.says.now.name c.in_ok-link-in-Main.link c.args.says.now.called c.args.says.now.ty c.in-Main.is c.in_ok-link-in-Main.ensures
