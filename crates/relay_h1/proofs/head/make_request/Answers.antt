use Rattle.std.proofs.Common.{subst, sym, ap, ◌∙◌}
use Rattle.http_header.specs.Token.{IsToken}
use Rattle.relay_h1.proofs.HeadLemmas.{token_is_kept, request_fields_at, made_request, kept_same}
use Rattle.relay_h1.proofs.head.make_request.Goals as goal

pub method_of-requires : goal.method_of-requires
method_of-requires c =
    let form = c.requires.form in
    subst IsToken (sym (c.of.ensures ∙ c.requires.at.method))
    (token_is_kept form.method c.requires.at.reads.0.method)

pub push_request_fields-requires-clause-fields : goal.push_request_fields-requires-clause-fields
push_request_fields-requires-clause-fields c =
    request_fields_at c.args.bytes.now c.args.spans.now c.args.found.now c.requires

pub returns-clause-ok : goal.returns-clause-ok
returns-clause-ok c =
    let is = c.requires in
    record {
      form = is.form;
      is_text = is.is_text;
      is =
          made_request is.form _ _ _ _ _ _ _ c.in_ok-head.ensures.ok
          (c.set_version.ensures ∙ ap (λ v. record c.in_ok-head.head { version = v })
          c.version_of.ensures)
          c.in_ok-push_request_fields.ensures.ok (c.in_ok-method.ensures.ok ∙ c.of.ensures
          ∙ is.at.method) (c.of-2.ensures ∙ is.at.path) is.at.version
          (kept_same c.args.bytes.now c.args.spans.now c.args.found.now.headers is.form.fields
          is.at.fields);
    }
