-- `pools::limits::check_limits` meets its contract: each limit that is kept leaves it to the next.
use Rattle.pools.specs.Sizes.{limits, max_code, first_over}
use Rattle.pools.specs.Answers.{limit_number}
use Rattle.pools.proofs.First.{after, handed_on, last}
use Rattle.pools.proofs.LimitLaws.{limits_tell}
use Rattle.pools.proofs.limits.check_limits.Goals as goal

pub returns-in_err-at_most : goal.returns-in_err-at_most
unfolding first_over limits limit_number max_code
returns-in_err-at_most c =
    handed_on _ limits_tell _ _ _ _ c.in_err-at_most.ensures c.from_residual.ensures

pub returns-in_err-at_most-2 : goal.returns-in_err-at_most-2
unfolding first_over limits limit_number max_code
returns-in_err-at_most-2 c =
    after _ limits_tell _ _ _ c.in_ok-at_most.ensures (
    handed_on _ limits_tell _ _ _ _ c.in_err-at_most-2.ensures c.from_residual-in_err-at_most-2.ensures)

pub returns-in_err-at_most-3 : goal.returns-in_err-at_most-3
unfolding first_over limits limit_number max_code
returns-in_err-at_most-3 c =
    after _ limits_tell _ _ _ c.in_ok-at_most.ensures (
    after _ limits_tell _ _ _ c.in_ok-at_most-2.ensures (
    handed_on _ limits_tell _ _ _ _ c.in_err-at_most-3.ensures c.from_residual-in_err-at_most-3.ensures))

pub returns-in_err-at_most-4 : goal.returns-in_err-at_most-4
unfolding first_over limits limit_number max_code
returns-in_err-at_most-4 c =
    after _ limits_tell _ _ _ c.in_ok-at_most.ensures (
    after _ limits_tell _ _ _ c.in_ok-at_most-2.ensures (
    after _ limits_tell _ _ _ c.in_ok-at_most-3.ensures (
    handed_on _ limits_tell _ _ _ _ c.in_err-at_most-4.ensures c.from_residual-in_err-at_most-4.ensures)))

pub returns-in_err-at_most-5 : goal.returns-in_err-at_most-5
unfolding first_over limits limit_number max_code
returns-in_err-at_most-5 c =
    after _ limits_tell _ _ _ c.in_ok-at_most.ensures (
    after _ limits_tell _ _ _ c.in_ok-at_most-2.ensures (
    after _ limits_tell _ _ _ c.in_ok-at_most-3.ensures (
    after _ limits_tell _ _ _ c.in_ok-at_most-4.ensures (
    handed_on _ limits_tell _ _ _ _ c.in_err-at_most-5.ensures c.from_residual-in_err-at_most-5.ensures))))

pub returns-in_err-at_most-6 : goal.returns-in_err-at_most-6
unfolding first_over limits limit_number max_code
returns-in_err-at_most-6 c =
    after _ limits_tell _ _ _ c.in_ok-at_most.ensures (
    after _ limits_tell _ _ _ c.in_ok-at_most-2.ensures (
    after _ limits_tell _ _ _ c.in_ok-at_most-3.ensures (
    after _ limits_tell _ _ _ c.in_ok-at_most-4.ensures (
    after _ limits_tell _ _ _ c.in_ok-at_most-5.ensures (
    handed_on _ limits_tell _ _ _ _ c.in_err-at_most-6.ensures c.from_residual-in_err-at_most-6.ensures)))))

pub returns-in_err-at_most-7 : goal.returns-in_err-at_most-7
unfolding first_over limits limit_number max_code
returns-in_err-at_most-7 c =
    after _ limits_tell _ _ _ c.in_ok-at_most.ensures (
    after _ limits_tell _ _ _ c.in_ok-at_most-2.ensures (
    after _ limits_tell _ _ _ c.in_ok-at_most-3.ensures (
    after _ limits_tell _ _ _ c.in_ok-at_most-4.ensures (
    after _ limits_tell _ _ _ c.in_ok-at_most-5.ensures (
    after _ limits_tell _ _ _ c.in_ok-at_most-6.ensures (
    handed_on _ limits_tell _ _ _ _ c.in_err-at_most-7.ensures c.from_residual-in_err-at_most-7.ensures))))))

pub returns-in_err-at_most-8 : goal.returns-in_err-at_most-8
unfolding first_over limits limit_number max_code
returns-in_err-at_most-8 c =
    after _ limits_tell _ _ _ c.in_ok-at_most.ensures (
    after _ limits_tell _ _ _ c.in_ok-at_most-2.ensures (
    after _ limits_tell _ _ _ c.in_ok-at_most-3.ensures (
    after _ limits_tell _ _ _ c.in_ok-at_most-4.ensures (
    after _ limits_tell _ _ _ c.in_ok-at_most-5.ensures (
    after _ limits_tell _ _ _ c.in_ok-at_most-6.ensures (
    after _ limits_tell _ _ _ c.in_ok-at_most-7.ensures (
    handed_on _ limits_tell _ _ _ _ c.in_err-at_most-8.ensures c.from_residual-in_err-at_most-8.ensures)))))))

pub returns-in_err-at_most-9 : goal.returns-in_err-at_most-9
unfolding first_over limits limit_number max_code
returns-in_err-at_most-9 c =
    after _ limits_tell _ _ _ c.in_ok-at_most.ensures (
    after _ limits_tell _ _ _ c.in_ok-at_most-2.ensures (
    after _ limits_tell _ _ _ c.in_ok-at_most-3.ensures (
    after _ limits_tell _ _ _ c.in_ok-at_most-4.ensures (
    after _ limits_tell _ _ _ c.in_ok-at_most-5.ensures (
    after _ limits_tell _ _ _ c.in_ok-at_most-6.ensures (
    after _ limits_tell _ _ _ c.in_ok-at_most-7.ensures (
    after _ limits_tell _ _ _ c.in_ok-at_most-8.ensures (
    handed_on _ limits_tell _ _ _ _ c.in_err-at_most-9.ensures c.from_residual-in_err-at_most-9.ensures))))))))

pub returns-in_err-at_most-10 : goal.returns-in_err-at_most-10
unfolding first_over limits limit_number max_code
returns-in_err-at_most-10 c =
    after _ limits_tell _ _ _ c.in_ok-at_most.ensures (
    after _ limits_tell _ _ _ c.in_ok-at_most-2.ensures (
    after _ limits_tell _ _ _ c.in_ok-at_most-3.ensures (
    after _ limits_tell _ _ _ c.in_ok-at_most-4.ensures (
    after _ limits_tell _ _ _ c.in_ok-at_most-5.ensures (
    after _ limits_tell _ _ _ c.in_ok-at_most-6.ensures (
    after _ limits_tell _ _ _ c.in_ok-at_most-7.ensures (
    after _ limits_tell _ _ _ c.in_ok-at_most-8.ensures (
    after _ limits_tell _ _ _ c.in_ok-at_most-9.ensures (
    handed_on _ limits_tell _ _ _ _ c.in_err-at_most-10.ensures c.from_residual-in_err-at_most-10.ensures)))))))))

pub returns : goal.returns
unfolding first_over limits limit_number max_code
returns c =
    after _ limits_tell _ _ _ c.in_ok-at_most.ensures (
    after _ limits_tell _ _ _ c.in_ok-at_most-2.ensures (
    after _ limits_tell _ _ _ c.in_ok-at_most-3.ensures (
    after _ limits_tell _ _ _ c.in_ok-at_most-4.ensures (
    after _ limits_tell _ _ _ c.in_ok-at_most-5.ensures (
    after _ limits_tell _ _ _ c.in_ok-at_most-6.ensures (
    after _ limits_tell _ _ _ c.in_ok-at_most-7.ensures (
    after _ limits_tell _ _ _ c.in_ok-at_most-8.ensures (
    after _ limits_tell _ _ _ c.in_ok-at_most-9.ensures (
    after _ limits_tell _ _ _ c.in_ok-at_most-10.ensures (
    last _ limits_tell _ _ c.at_most-11.ensures))))))))))
