use Rattle.std.proofs.Common.{subst}
use Rattle.cf_parse_decl.specs.Reads.{Gives}
use Rattle.cf_parse_member.proofs.MembersRead.{member-is}
use Rattle.cf_parse_member.proofs.member.one_member.Goals as goal

pub returns : goal.returns
returns g c =
    subst (λ o. Gives o c.member_read.result c.member_read.new.known c.member_read.new.c)
    (member-is c.args.grammar.now.depth c.args.known.now c.args.c.now) c.member_read.ensures
