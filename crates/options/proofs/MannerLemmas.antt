-- How servers are treated, value by value.
use Rattle.std.proofs.Common.{◌≡◌, ◌*◌, ℕ, Bool, List, Option, Some, None, refl}
use Rattle.std.specs.Prelude.{codes}
use Rattle.clap.specs.Walk.{Row, first_of}
use Rattle.pacing.specs.declared.manner.Family.{Family}
use Rattle.options.specs.Given.{is_set}
use Rattle.options.specs.Manners.{body_by, family_of, limit_by, limit_of, manner_of, rate_by, wait_by}

pub good-manner : (found : List Row) (wait : ℕ) (random : Bool) (lookup connect read answer : Option ℕ) (body : ℕ) (rate : Option ℕ) (crawl : Bool) (family : Family) → random ≡ is_set (codes "random-wait") found
    → wait_by (first_of (codes "wait") found) ≡ Some wait → limit_of (codes "dns-timeout") None found ≡ Some lookup → limit_of (codes "connect-timeout") None found ≡ Some connect
    → limit_of (codes "read-timeout") (Some (900 * 1_000_000_000)) found ≡ Some read → limit_by None (first_of (codes "answer-timeout") found) ≡ Some answer
    → body_by 1_099_511_627_776 (first_of (codes "max-body") found) ≡ Some body → rate_by (first_of (codes "limit-rate") found) ≡ Some rate → crawl ≡ is_set (codes "crawl-delay") found → family_of found ≡ Some family
    → manner_of found ≡ Some (record { wait = wait; is_random = random; lookup_limit = lookup; connect_limit = connect; read_limit = read; answer_limit = answer; body_limit = body; rate = rate; crawl_delay = crawl; family = family })
unfolding manner_of
good-manner found wait random lookup connect read answer body rate crawl family randoms waits lookups connects reads answers bodies rates crawls families = rw (waits, lookups, connects, reads, answers, bodies, rates, families, randoms, crawls) refl
