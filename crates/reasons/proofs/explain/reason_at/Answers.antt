use Rattle.reasons.proofs.explain.reason_at.Goals as goal

pub returns : goal.returns
returns c =
    rw (
      ← c.fields-fs.ensures,
      ← c.identifier_of-k.ensures,
      ← c.role-role.ensures,
    ) c.reason_as.ensures
