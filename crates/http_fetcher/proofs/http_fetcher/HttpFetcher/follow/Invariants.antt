use Rattle.std.proofs.Common.{◌≡◌, ◌≤◌, ◌+◌, ◌++◌, List, codes, length, false}
use Rattle.robots_rules.specs.Access.{RuleSetValue}
use Rattle.response_reader.specs.Wire.{counted}
use Rattle.answer_notes.specs.RobotsAnswers.{max_redirects}
use Rattle.response_reader.specs.Limits.{standard}
use Rattle.http_fetcher.specs.Chains.{IsChain}
use Rattle.http_fetcher.specs.Fetching.{IsGiven, StandsBehind}
use Rattle.answer_notes.specs.HopChains.{HopValue, AreHops, IsAdmitted}
use Rattle.http_fetcher.proofs.http_fetcher.HttpFetcher.follow.Given as goal

abbrev pub invariant-hops : goal.invariant-hops
invariant-hops g l =
    let Says = IsGiven g.C.Connect g.C.Wire.Wire standard l.fn.self in record {
      asks : l.self.asks ≡ l.fn.self.asks;
      links : l.self.links ≡ l.fn.self.links;
      keeps : l.self.keeps ≡ l.fn.self.keeps;
      sends : l.self.sends ≡ l.fn.self.sends;
      is_recording : l.self.is_recording ≡ l.fn.self.is_recording;
      notes : l.self.notes ≡ l.fn.self.notes;
      origin : l.origin ≡ l.fn.of;
      left : l.left ≤ max_redirects;
      count : l.fn.self.keeps ≡ false → g.C.Connect.made l.self.connect ≡ counted (g.C.Connect.made l.fn.self.connect) (length l.hops.items);
      few : g.C.Connect.made l.self.connect + l.left ≤ g.C.Connect.made l.fn.self.connect + max_redirects;
      stands : StandsBehind g.C.Connect g.C.Wire.Wire standard l.fn.self l.self;
      chain : (r : RuleSetValue) → IsChain Says l.left l.at r → IsChain Says max_redirects (l.fn.of ++ codes "/robots.txt") r;
      admitted : (tail : List HopValue) → AreHops l.left l.at tail → IsAdmitted l.fn.of (l.hops.items ++ tail);
    }

abbrev pub decreases-hops : goal.decreases-hops
decreases-hops g l = l.left
