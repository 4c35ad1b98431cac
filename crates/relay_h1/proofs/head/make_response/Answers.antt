use Rattle.std.proofs.Common.{ap, ◌∙◌}
use Rattle.relay_h1.proofs.HeadLemmas.{response_fields_at, made_response, kept_same}
use Rattle.relay_h1.proofs.head.make_response.Goals as goal

pub push_response_fields-requires-clause-fields : goal.push_response_fields-requires-clause-fields
push_response_fields-requires-clause-fields c =
    response_fields_at c.args.bytes.now c.args.spans.now c.args.found.now c.requires

pub returns-clause-ok : goal.returns-clause-ok
returns-clause-ok c =
    let is = c.requires in
    record {
      form = is.form;
      is_text = is.is_text;
      is =
          made_response is.form _ _ _ _ _ _ c.in_ok-head.ensures.ok
          (c.set_version.ensures ∙ ap (λ v. record c.in_ok-head.head { version = v })
          c.version_of.ensures)
          c.in_ok-push_response_fields.ensures.ok
          is.at.code is.at.version
          (kept_same c.args.bytes.now c.args.spans.now c.args.found.now.headers is.form.fields
          is.at.fields);
    }
