use Rattle.std.proofs.Common.{◌≡◌, true, ◌∙◌, ap, codes}
use Rattle.http_header.specs.HeaderMap.{get_all}
use Rattle.relay_tasks.specs.Head.{ResponseHead}
use Rattle.relay_h1.specs.Framing.{is_http_10}
use Rattle.relay_h1.specs.ClientHead.{framing_for, head_for}
use Rattle.relay_h1.proofs.JudgeLemmas.{framed_is}
use Rattle.relay_h1.proofs.ClientHeadLemmas.{finds_framing, uncoded_has_none}
use Rattle.relay_h1.proofs.client_head.frame_for_client.Goals as goal

pub returns-clause-found : goal.returns-clause-found
returns-clause-found c =
    let old = is_http_10 c.args.version in
    let given = c.in_ok-framing.framing in
    let made : c.make_head_for.new.head ≡ head_for old given c.args.head.now =
    c.make_head_for.ensures.head
    ∙ ap (λ b. head_for b given c.args.head.now) c.is_http_10.ensures in
    let framed : c.framing_for.result ≡ framing_for old given =
    c.framing_for.ensures ∙ ap (λ b. framing_for b given) c.is_http_10-2.ensures in
    rw (made, framed)
    (finds_framing c.args.method.now c.args.asked old c.args.head.now given
    (framed_is given _ c.in_ok-framing.ensures) c.make_head_for.ensures.unique
    c.make_head_for.ensures.still_unique)

pub returns-clause-plain : goal.returns-clause-plain
returns-clause-plain c = λ old.
    let given = c.in_ok-framing.framing in
    let made : c.make_head_for.new.head ≡ head_for true given c.args.head.now =
    c.make_head_for.ensures.head
    ∙ ap (λ b. head_for b given c.args.head.now) (c.is_http_10.ensures ∙ old) in
    ap (λ (h : ResponseHead). get_all h.fields (codes "transfer-encoding")) made
    ∙ uncoded_has_none given c.args.head.now c.make_head_for.ensures.still_unique
