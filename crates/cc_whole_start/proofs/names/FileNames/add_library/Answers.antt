use Rattle.std.proofs.Common.{◌≡◌, ◌+◌, suc, refl, arith}
use Rattle.std.specs.Prelude.{codes}
use Rattle.cc_whole_start.specs.Table.{scope_of}
use Rattle.cc_whole_start.proofs.NameLaws.{bound-so, on-ok}
use Rattle.cc_whole_start.proofs.names.FileNames.add_library.Goals as goal

pub returns : goal.returns
returns c =
    let n = c.args.number in
    let one : n + 1 ≡ suc n = omega arith in
    let two : n + 2 ≡ suc (suc n) = omega arith in
    let three : n + 3 ≡ suc (suc (suc n)) = omega arith in
    let four : n + 4 ≡ suc (suc (suc (suc n))) = omega arith in
    let five : n + 5 ≡ suc (suc (suc (suc (suc n)))) = omega arith in
    let putchar = bound-so c.as_slice.result.now (codes "putchar") n n (scope_of c.args.self.now) (scope_of c.args.self.now) (scope_of c.add.new.self)
    c.in_ok-add.ensures c.as_slice.ensures refl refl in
    let getchar = bound-so c.as_slice-2.result.now (codes "getchar") (n + 1) (suc n) (scope_of c.add.new.self) _ (scope_of c.add-2.new.self)
    c.in_ok-add-2.ensures c.as_slice-2.ensures one putchar in
    let exit = bound-so c.as_slice-3.result.now (codes "exit") (n + 2) (suc (suc n)) (scope_of c.add-2.new.self) _ (scope_of c.add-3.new.self)
    c.in_ok-add-3.ensures c.as_slice-3.ensures two getchar in
    let malloc = bound-so c.as_slice-4.result.now (codes "malloc") (n + 3) (suc (suc (suc n))) (scope_of c.add-3.new.self) _ (scope_of c.add-4.new.self)
    c.in_ok-add-4.ensures c.as_slice-4.ensures three exit in
    let free = bound-so c.as_slice-5.result.now (codes "free") (n + 4) (suc (suc (suc (suc n)))) (scope_of c.add-4.new.self) _ (scope_of c.add-5.new.self)
    c.in_ok-add-5.ensures c.as_slice-5.ensures four malloc in
    on-ok c.add-6.result
    (λ e. bound-so c.as_slice-6.result.now (codes "atexit") (n + 5) (suc (suc (suc (suc (suc n))))) (scope_of c.add-5.new.self) _ (scope_of c.add-6.new.self)
    e c.as_slice-6.ensures five free) c.add-6.ensures
